-- A new scope inside one, and the scopes that are not around it.
use Rattle.std.proofs.Common.{◌≡◌, ◌∙◌, ◌<◌, ℕ, zero, suc, [], ◌∷◌, ◌++◌, Bool, true, false, true≢false, ◌||◌, Option, Some, None, nat_eq, nat_le, length, arith, refl, ap}
use Rattle.std.proofs.Math.Seq.{get_or-append_seam}
use Rattle.std.specs.List.{list_any}
use Rattle.std.proofs.lemmas.Bool.{ne_eqb}
use Rattle.std.proofs.lemmas.Bool.Decides.{nat_tests}
use Rattle.std.proofs.lemmas.List.{length-append, get_or_append_left}
use Rattle.scope_rules.specs.Table.{Scoping}
use Rattle.scope_table.specs.Reading.{scope_at, scopes_up, ancestors, no_scope}
use Rattle.scope_table.specs.Editing.{new_scope, with_scope, IsOutside}

-- that scope, or one that is not there
abbrev pub is_met : Scoping → (scope : ℕ) → ℕ → Bool
is_met s scope a = nat_eq scope a || nat_le (length s.scopes) a

neither : (a b : Bool) → a || b ≡ false → (a ≡ false) × (b ≡ false)
neither true b e = absurd (true≢false e)
neither false b e = (refl, e)

below : (l n : ℕ) → nat_le l n ≡ false → n < l
below l n e = grind (arith, nat_tests)

module _ (s : Scoping) (scope parent flags : ℕ) where
  old : (n : ℕ) → n < length s.scopes → (scope_at (with_scope (Some parent) flags s) n).parent ≡ (scope_at s n).parent
  old n low = ap (λ x. x.parent) (get_or_append_left s.scopes (new_scope (Some parent) flags ∷ []) no_scope n low)

  last : (scope_at (with_scope (Some parent) flags s) (length s.scopes)).parent ≡ Some parent
  last = ap (λ x. x.parent) (get_or-append_seam s.scopes (new_scope (Some parent) flags) [] no_scope)

  not_above : (most : ℕ) (n : Option ℕ) → list_any (is_met s scope) (scopes_up most s n) ≡ false → list_any (nat_eq scope) (scopes_up most (with_scope (Some parent) flags s) n) ≡ false
  not_above zero n out = refl
  not_above (suc most) None out = refl
  not_above (suc most) (Some n) out =
      let parts = neither (is_met s scope n) (list_any (is_met s scope) (scopes_up most s (scope_at s n).parent)) out in
      let here = neither (nat_eq scope n) (nat_le (length s.scopes) n) parts.0 in
      ap (λ b. b || list_any (nat_eq scope) (scopes_up most (with_scope (Some parent) flags s) (scope_at (with_scope (Some parent) flags s) n).parent)) here.0
      ∙ ap (λ o. list_any (nat_eq scope) (scopes_up most (with_scope (Some parent) flags s) o)) (old n (below (length s.scopes) n here.1))
      ∙ not_above most (scope_at s n).parent parts.1

  pub new_is_outside : scope < length s.scopes → list_any (is_met s scope) (ancestors s parent) ≡ false → IsOutside (with_scope (Some parent) flags s) scope (length s.scopes)
  new_is_outside low out =
      let longer : length (s.scopes ++ new_scope (Some parent) flags ∷ []) ≡ suc (length s.scopes) = let r = length-append s.scopes (new_scope (Some parent) flags ∷ []) in omega (arith, r) in
      ap (λ k. list_any (nat_eq scope) (scopes_up k (with_scope (Some parent) flags s) (Some (length s.scopes)))) longer
      ∙ ap (λ b. b || list_any (nat_eq scope) (scopes_up (length s.scopes) (with_scope (Some parent) flags s) (scope_at (with_scope (Some parent) flags s) (length s.scopes)).parent)) (ne_eqb scope (length s.scopes) (λ e. omega (arith, e, low)))
      ∙ ap (λ o. list_any (nat_eq scope) (scopes_up (length s.scopes) (with_scope (Some parent) flags s) o)) last
      ∙ not_above (length s.scopes) (Some parent) out
