use Rattle.std.proofs.Common.{◌∙◌, ◌&&◌, sym, ap}
use Rattle.std.specs.Option.{option_map}
use Rattle.js_syntax.specs.Node.{row}
use Rattle.min_imports.specs.Merging.{imported_from, list_takes}
use Rattle.min_imports.proofs.Planning.{imports_from, imports_none}
use Rattle.min_imports.proofs.merged.takes.Goals as goal

pub returns-then-is_same : goal.returns-then-is_same
returns-then-is_same c =
    let node = c.args.node.now in
    let later = row c.args.later.now in
    c.list_takes.ensures
    ∙ ap (list_takes later) c.children.ensures
    ∙ sym (ap (λ b. b && list_takes later node.below) (sym c.is_same.ensures ∙ c.if-is_same.true))
    ∙ imports_from c.args.source.now later node.kind node.below c.in-Some.other.now (ap imported_from (sym c.kind.ensures) ∙ sym c.imported_from.ensures ∙ ap (option_map (λ s. s.now)) c.in-Some.is)

pub returns-else-is_same : goal.returns-else-is_same
returns-else-is_same c =
    let node = c.args.node.now in
    let later = row c.args.later.now in
    c.if-is_same.false
    ∙ sym (ap (λ b. b && list_takes later node.below) (sym c.is_same.ensures ∙ c.if-is_same.false))
    ∙ imports_from c.args.source.now later node.kind node.below c.in-Some.other.now (ap imported_from (sym c.kind.ensures) ∙ sym c.imported_from.ensures ∙ ap (option_map (λ s. s.now)) c.in-Some.is)

pub returns-in-None : goal.returns-in-None
returns-in-None c =
    let node = c.args.node.now in
    imports_none c.args.source.now (row c.args.later.now) node.kind node.below (ap imported_from (sym c.kind.ensures) ∙ sym c.imported_from.ensures ∙ ap (option_map (λ s. s.now)) c.in-None.is)
