use Rattle.std.proofs.Common.{◌∙◌, Some, None, sym, ap}
use Rattle.std.specs.Option.{option_map}
use Rattle.js_syntax.specs.declared.node_kind.NodeKind.TheVariants.{ExportNamedDeclaration as export_named_declaration}
use Rattle.js_syntax.specs.Node.{Tree, absent, row, forest_of}
use Rattle.rules.specs.Imports.Passed.{passed, export_of}
use Rattle.min_imports.proofs.passed.names_passed.Goals as goal

pub returns-in_default : goal.returns-in_default
returns-in_default c =
    ap (export_of c.args.source.now c.args.import.now.note c.args.list.now.note None)
    (ap (option_map (λ v. row v.items)) (sym c.in_default.is) ∙ c.in_ok-found.ensures ∙ ap (λ t. passed t (row c.args.specifiers.now)) c.children.ensures)

pub returns : goal.returns
returns c =
    ap Some (c.in_ok-node.ensures ∙ ap {A = Tree} {B = Tree} (λ t. record { kind = export_named_declaration (Some c.args.source.now); note = c.args.import.now.note; below = absent (forest_of t) }) c.list_of.ensures)
    ∙ ap (export_of c.args.source.now c.args.import.now.note c.args.list.now.note None)
    (ap (option_map (λ v. row v.items)) (sym c.in-Some.is) ∙ c.in_ok-found.ensures ∙ ap (λ t. passed t (row c.args.specifiers.now)) c.children.ensures)
