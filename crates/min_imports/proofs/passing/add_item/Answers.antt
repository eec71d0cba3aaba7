use Rattle.std.proofs.Common.{◌∙◌, sym, ap}
use Rattle.min_imports.specs.Passing.{item_binds, stretch, widened_if}
use Rattle.min_imports.proofs.passing.add_item.Goals as goal

pub returns-in_ok-add_import-in-Some : goal.returns-in_ok-add_import-in-Some
returns-in_ok-add_import-in-Some c = λ x. c.in_ok-add_import-in-Some.ensures x ∙ ap (λ t. widened_if (item_binds t x) (stretch c.args.binders.now x) c.args.at) (sym c.in-Some.is)

pub returns-in-None : goal.returns-in-None
returns-in-None c = λ x. ap (λ t. widened_if (item_binds t x) (stretch c.args.binders.now x) c.args.at) (sym c.in-None.is)
