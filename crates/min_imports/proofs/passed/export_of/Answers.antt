use Rattle.std.proofs.Common.{◌∙◌, Some, sym, ap}
use Rattle.std.specs.Option.{option_map}
use Rattle.js_syntax.specs.Node.{row}
use Rattle.rules.specs.Imports.Passed.{passed, namespace_passed, export_of}
use Rattle.min_imports.proofs.passed.export_of.Goals as goal

pub returns-in_ok-node-in-Some : goal.returns-in_ok-node-in-Some
returns-in_ok-node-in-Some c =
    ap Some c.in_ok-node-in-Some.ensures
    ∙ ap (λ o. export_of c.args.source.now c.args.import.now.note c.args.list.now.note o (passed c.args.list.now.below (row c.args.specifiers.now)))
    (ap (option_map (λ n. n.now)) (sym c.in-Some.is) ∙ c.namespace_passed-whole.ensures ∙ ap (λ t. namespace_passed t (row c.args.specifiers.now)) c.children.ensures)

pub returns-in_ok-node-in-None : goal.returns-in_ok-node-in-None
returns-in_ok-node-in-None c =
    c.in_ok-node-in-None.ensures
    ∙ ap (λ o. export_of c.args.source.now c.args.import.now.note c.args.list.now.note o (passed c.args.list.now.below (row c.args.specifiers.now)))
    (ap (option_map (λ n. n.now)) (sym c.in-None.is) ∙ c.namespace_passed-whole.ensures ∙ ap (λ t. namespace_passed t (row c.args.specifiers.now)) c.children.ensures)
