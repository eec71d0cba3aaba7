-- Quotients without a rest.
use Rattle.std.proofs.Common.{◌≡◌, ℤ, true, false, refl}
use Rattle.std.specs.Prelude.{int_rem, int_div}
use Rattle.js_effects.specs.Values.{is_zero, is_negative, signed, divided}

pub no_rest : (a b : ℤ) → is_zero b ≡ false → is_zero (int_rem a b) ≡ true → divided a b ≡ signed (is_negative b) (int_div a b)
no_rest a b divisor rest = rw (divisor, rest) refl
