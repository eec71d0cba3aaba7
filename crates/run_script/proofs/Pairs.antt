-- Lists of two.
use Rattle.std.proofs.Common.{◌≡◌, List, [], ◌∷◌, None, length, refl}
use Rattle.serde_json.specs.Data.{array}
use Rattle.serde_json.specs.View.{items_view}
use Rattle.serde_json.specs.declared.value.Value.{Value}
use Rattle.run_script.specs.Held.{pair_in}

pub not_two : (vs : List Value) → (length vs ≡ 2 → ⊥) → pair_in (array (items_view vs)) ≡ None
not_two [] h = refl
not_two (a ∷ []) h = refl
not_two (a ∷ b ∷ []) h = absurd (h refl)
not_two (a ∷ b ∷ c ∷ vs) h = refl
