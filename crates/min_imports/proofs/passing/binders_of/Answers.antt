use Rattle.std.proofs.Common.{◌∙◌, sym, ap}
use Rattle.std.specs.Option.{option_map}
use Rattle.min_imports.specs.Passing.{stretch_for}
use Rattle.min_imports.proofs.passing.binders_of.Goals as goal

pub returns-in-Some : goal.returns-in-Some
returns-in-Some c = c.copied.ensures ∙ c.get.ensures.value ∙ ap (stretch_for c.args.binders.now) (ap (option_map (λ s. s.now)) (sym c.in-Some.is) ∙ c.first_text.ensures)

pub returns-in-None : goal.returns-in-None
returns-in-None c = ap (stretch_for c.args.binders.now) (ap (option_map (λ s. s.now)) (sym c.in-None.is) ∙ c.first_text.ensures)
