use Rattle.std.proofs.Common.{◌∙◌, sym, ap}
use Rattle.std.specs.Option.{option_map}
use Rattle.min_imports.specs.Merging.{imported_from, names_of}
use Rattle.min_imports.proofs.Binding.{names_there, names_not}
use Rattle.min_imports.proofs.passing.imports_names.Goals as goal

pub returns-in-Some : goal.returns-in-Some
returns-in-Some c = c.names_of.ensures ∙ ap names_of c.children.ensures ∙ names_there _ c.args.node.now.kind c.args.node.now.below (ap imported_from (sym c.kind.ensures) ∙ sym c.imported_from.ensures ∙ ap (option_map (λ s. s.now)) c.in-Some.is)

pub returns-in-None : goal.returns-in-None
returns-in-None c = names_not c.args.node.now.kind c.args.node.now.below (ap imported_from (sym c.kind.ensures) ∙ sym c.imported_from.ensures ∙ ap (option_map (λ s. s.now)) c.in-None.is)
