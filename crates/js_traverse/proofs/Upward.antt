-- The scopes around one, one after another.
use Rattle.std.proofs.Common.{◌≡◌, ◌-◌, ◌<◌, ℕ, zero, suc, Some, None, [], ◌∷◌, refl, ap, arith}
use Rattle.scope_rules.specs.Table.{Scoping}
use Rattle.scope_table.specs.Reading.{scope_at, scopes_up}

pub none_up : (most : ℕ) (s : Scoping) → scopes_up most s None ≡ []
none_up zero s = refl
none_up (suc most) s = refl

pub one_up : (most : ℕ) (s : Scoping) (n : ℕ) → 0 < most → scopes_up most s (Some n) ≡ n ∷ scopes_up (most - 1) s (scope_at s n).parent
one_up zero s n some = absurd (omega (arith, some))
one_up (suc most) s n some = let same : most ≡ suc most - 1 = omega arith in ap (λ m. n ∷ scopes_up m s (scope_at s n).parent) same
