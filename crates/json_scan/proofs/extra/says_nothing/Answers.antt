use Rattle.std.proofs.Common.{◌≡◌, ◌==◌, ◌∙◌, ℕ, suc, false, List, [], ◌∷◌, length, Bor, refl, rules, arith}
use Rattle.std.proofs.lemmas.Grind.{common_steps}
use Rattle.serde_json.specs.Data.{array, object, Members, no_members, member}
use Rattle.json_value.specs.View.{items_view, members_view}
use Rattle.json_value.specs.declared.value.Value.{Value}
use Rattle.json_value.proofs.Views.{view_array, view_object, no_members_only_of_none}
use Rattle.json_text.specs.Plain.{is_empty}
use Rattle.json_scan.proofs.extra.says_nothing.Goals as goal

not_zero : (n : ℕ) → (suc n == 0) ≡ false
not_zero n = grind (arith, common_steps)

no_items_are_left : (n : ℕ) (vs : List Value) → n ≡ length vs → (n == 0) ≡ is_empty (array (items_view vs))
no_items_are_left n [] h = rw h refl
no_items_are_left n (v ∷ vs) h = rw h (not_zero (length vs))

some_are_left : (ms : Members) → (ms ≡ no_members → ⊥) → is_empty (object ms) ≡ false
some_are_left no_members h = absurd (h refl)
some_are_left (member k d ms) h = refl

no_members_are_left : (n : ℕ) (ms : List (Bor (List ℕ) × Value)) → n ≡ length ms → (n == 0) ≡ is_empty (object (members_view ms))
no_members_are_left n [] h = rw h refl
no_members_are_left n (m ∷ ms) h = rw (h, some_are_left (members_view (m ∷ ms)) (no_members_only_of_none m ms)) (not_zero (length ms))

pub returns-in-Array : goal.returns-in-Array
returns-in-Array c = rw (c.in-FullIsRefused.is, c.in-Array.is, view_array) (c.is_empty-in-Array.ensures ∙ no_items_are_left _ c.in-Array.items.items (search rules))

pub returns-in-Object : goal.returns-in-Object
returns-in-Object c = rw (c.in-FullIsRefused.is, c.in-Object.is, view_object) (c.is_empty-in-Object.ensures ∙ no_members_are_left _ c.in-Object.members.items (search rules))
