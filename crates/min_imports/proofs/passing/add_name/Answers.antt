use Rattle.std.proofs.Common.{◌∙◌, Some, None, sym, ap, refl}
use Rattle.std.specs.Option.{option_map}
use Rattle.min_imports.specs.Passing.{bound_text, stretch}
use Rattle.min_imports.proofs.Binding.{text_there}
use Rattle.min_imports.proofs.passing.add_name.Goals as goal

pub returns-in_ok-add_binder-in-Some : goal.returns-in_ok-add_binder-in-Some
returns-in_ok-add_binder-in-Some c = λ x.
    text_there (Some c.in-Some.text.now) (bound_text c.args.name.now) x (stretch c.args.binders.now x) (stretch c.add_binder.new.binders x) c.args.at (ap (option_map (λ s. s.now)) (sym c.in-Some.is) ∙ c.bound_text.ensures) (c.in_ok-add_binder-in-Some.ensures x)

pub returns-in-None : goal.returns-in-None
returns-in-None c = λ x. text_there None (bound_text c.args.name.now) x (stretch c.args.binders.now x) (stretch c.args.binders.now x) c.args.at (ap (option_map (λ s. s.now)) (sym c.in-None.is) ∙ c.bound_text.ensures) refl
