use Rattle.std.proofs.Common.{◌∙◌, ◌&&◌, sym, ap}
use Rattle.std.specs.Option.{option_map}
use Rattle.js_syntax.specs.Node.{row}
use Rattle.steps.specs.Allowed.PassedExports.{may_pass}
use Rattle.rules.specs.Imports.Passed.{are_passed_alone}
use Rattle.min_imports.specs.Passing.{list_among}
use Rattle.min_imports.proofs.Naming.{no_list, import_so, exported}
use Rattle.min_imports.proofs.passed.import_passed.Goals as goal

pub returns-in_default : goal.returns-in_default
returns-in_default c =
    no_list c.args.uses.now (row c.args.listed.now.specifiers.now) c.args.source.now c.args.import.now.kind c.args.import.now.note c.args.import.now.below c.requires.source (ap list_among (sym c.children.ensures) ∙ sym c.list_among.ensures ∙ ap (option_map (λ n. n.now)) c.in_default.is)

pub returns-then-not-names_pass : goal.returns-then-not-names_pass
returns-then-not-names_pass c =
    let f = c.args.uses.now in
    let listed = row c.args.listed.now.specifiers.now in
    ap (exported f listed c.args.source.now c.args.import.now.note c.in-Some.list.now) (sym c.if-not-names_pass.true)
    ∙ import_so f listed c.args.source.now c.args.import.now.kind c.args.import.now.note c.args.import.now.below c.in-Some.list.now c.names_pass.result c.requires.source (ap list_among (sym c.children.ensures) ∙ sym c.list_among.ensures ∙ ap (option_map (λ n. n.now)) c.in-Some.is)
    (c.names_pass.ensures ∙ ap (λ t. may_pass t listed && are_passed_alone f listed t) c.children-2.ensures)

pub returns : goal.returns
returns c =
    let f = c.args.uses.now in
    let listed = row c.args.listed.now.specifiers.now in
    c.in_ok-passed.ensures
    ∙ ap (exported f listed c.args.source.now c.args.import.now.note c.in-Some.list.now) (sym c.if-not-names_pass.false)
    ∙ import_so f listed c.args.source.now c.args.import.now.kind c.args.import.now.note c.args.import.now.below c.in-Some.list.now c.names_pass.result c.requires.source (ap list_among (sym c.children.ensures) ∙ sym c.list_among.ensures ∙ ap (option_map (λ n. n.now)) c.in-Some.is)
    (c.names_pass.ensures ∙ ap (λ t. may_pass t listed && are_passed_alone f listed t) c.children-2.ensures)
