-- What unary operators convert.
use Rattle.std.proofs.Common.{◌≡◌, Bool, false, refl}
use Rattle.js_syntax.specs.declared.operator.UnaryOperator.{UnaryOperator}
use Rattle.js_syntax.specs.declared.operator.UnaryOperator.TheVariants as unary
use Rattle.js_effects.specs.Still.{converts_nothing}
use Rattle.js_effects.specs.Effects.{is_silent_unary}

-- what converts its operand is silent where that is primitive
pub of_primitive : (o : UnaryOperator) (primitive : Bool) → (o ≡ unary.Delete → ⊥) → converts_nothing o ≡ false → is_silent_unary o primitive ≡ primitive
of_primitive unary.Delete p other h = absurd (other refl)
of_primitive unary.LogicalNot p other h = absurd (cc h)
of_primitive unary.Typeof p other h = absurd (cc h)
of_primitive unary.Void p other h = absurd (cc h)
of_primitive unary.UnaryNegation p other h = refl
of_primitive unary.UnaryPlus p other h = refl
of_primitive unary.BitwiseNot p other h = refl
