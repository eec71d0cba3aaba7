-- What rows of nodes say of the code in them.
use Rattle.std.proofs.Common.{◌≡◌, ◌≤◌, List, [], ◌∷◌, true, Option, Some, None, length, refl, arith}
use Rattle.js_syntax.specs.Node.{Tree, row}
use Rattle.form_rules.specs.Context.{extends_another}

pub no_second : (ts : List (Option Tree)) → length ts ≤ 1 → true ≡ extends_another (row ts)
no_second [] h = refl
no_second (None ∷ []) h = refl
no_second (Some t ∷ []) h = refl
no_second (t ∷ u ∷ ts) h = absurd (omega (arith, h))
