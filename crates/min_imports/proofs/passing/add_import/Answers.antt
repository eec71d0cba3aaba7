use Rattle.std.proofs.Common.{◌∙◌, sym, ap}
use Rattle.std.specs.Option.{option_map}
use Rattle.js_syntax.specs.Node.{row}
use Rattle.min_imports.specs.Passing.{names_bind, or_nothing, stretch, widened_if}
use Rattle.min_imports.proofs.passing.add_import.Goals as goal

pub returns-in_ok-add_names-in-Some : goal.returns-in_ok-add_names-in-Some
returns-in_ok-add_names-in-Some c = λ x. c.in_ok-add_names-in-Some.ensures x ∙ ap (λ o. widened_if (names_bind (or_nothing o) x) (stretch c.args.binders.now x) c.args.at) (ap (option_map (λ s. row s.now)) (sym c.in-Some.is) ∙ c.imports_names.ensures)

pub returns-in-None : goal.returns-in-None
returns-in-None c = λ x. ap (λ o. widened_if (names_bind (or_nothing o) x) (stretch c.args.binders.now x) c.args.at) (ap (option_map (λ s. row s.now)) (sym c.in-None.is) ∙ c.imports_names.ensures)
