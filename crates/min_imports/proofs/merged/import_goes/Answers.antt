use Rattle.std.proofs.Common.{◌∙◌, sym, ap}
use Rattle.std.specs.Option.{option_map}
use Rattle.js_syntax.specs.Node.{row}
use Rattle.js_syntax.proofs.Truth.{not_true}
use Rattle.min_imports.specs.Merging.{names_of, planned}
use Rattle.min_imports.proofs.Planning.{goes_no_names, goes_first, goes_in}
use Rattle.min_imports.proofs.merged.import_goes.Goals as goal

pub returns-in_default-clause-goes : goal.returns-in_default-clause-goes
returns-in_default-clause-goes c =
    goes_no_names c.args.sources.now (planned c.args.items.now c.args.staying.now c.args.changed.now.items) c.args.node.now (ap names_of (sym c.children.ensures) ∙ sym c.names_of.ensures ∙ ap (option_map (λ s. row s.now)) c.in_default.is)

pub returns-then-is_new-clause-goes : goal.returns-then-is_new-clause-goes
returns-then-is_new-clause-goes c =
    goes_first c.args.sources.now (planned c.args.items.now c.args.staying.now c.args.changed.now.items) c.args.node.now c.args.source (row c.in-Some.names.now) c.insert.new.self c.requires.source
    (ap names_of (sym c.children.ensures) ∙ sym c.names_of.ensures ∙ ap (option_map (λ s. row s.now)) c.in-Some.is) c.in_ok-is_new.ensures.updates (not_true _ (sym c.in_ok-is_new.ensures.added ∙ c.if-is_new.true))

pub returns-clause-goes : goal.returns-clause-goes
returns-clause-goes c =
    goes_in c.args.sources.now (planned c.args.items.now c.args.staying.now c.args.changed.now.items) c.args.node.now c.args.source (row c.in-Some.names.now) c.insert.new.self c.in_ok-is_gone.is_gone (planned c.args.items.now c.args.staying.now c.go_in.new.changed.items) c.requires.source
    (ap names_of (sym c.children.ensures) ∙ sym c.names_of.ensures ∙ ap (option_map (λ s. row s.now)) c.in-Some.is) c.in_ok-is_new.ensures.updates c.in_ok-is_gone.ensures.goes c.in_ok-is_gone.ensures.left
