-- Conditions that hold together.
use Rattle.std.proofs.Common.{◌≡◌, ◌+◌, ℕ, Bool, true, false, if◌then◌else◌, refl, arith}

-- one that counts 1 where it fails
pub counted : (b : Bool) (n : ℕ) → (if b then 0 else 1) + n ≡ 0 → b ≡ true
counted true n h = refl
counted false n h = absurd (omega (arith, h))

pub rest_counted : (b : Bool) (n : ℕ) → (if b then 0 else 1) + n ≡ 0 → n ≡ 0
rest_counted b n h = omega (arith, h)
