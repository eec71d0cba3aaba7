use Rattle.std.proofs.Common.{◌∙◌, option_copied, sym, ap}
use Rattle.std.specs.Option.{option_map}
use Rattle.min_imports.specs.Passing.{reference_alone}
use Rattle.min_imports.proofs.Naming.{unnamed, is_found}
use Rattle.min_imports.proofs.passed.passed_name.Goals as goal

pub returns-in_default : goal.returns-in_default
returns-in_default c = unnamed c.args.bound.now c.args.specifier.now c.args.exported.now c.requires (ap reference_alone (sym c.children.ensures) ∙ sym c.reference_alone.ensures ∙ ap (option_map (λ s. s.now)) c.in_default.is)

pub returns : goal.returns
returns c =
    is_found c.args.bound.now c.args.specifier.now c.args.exported.now c.requires c.in-Some.text.now c.in-Some-get.kind.now _ (ap reference_alone (sym c.children.ensures) ∙ sym c.reference_alone.ensures ∙ ap (option_map (λ s. s.now)) c.in-Some.is)
    (sym c.get.ensures.value ∙ ap option_copied c.in-Some-get.is) c.in_ok-name.ensures
