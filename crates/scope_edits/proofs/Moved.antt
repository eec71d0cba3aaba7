-- Parents end after a scope is added, and after one is put into another.
use Rattle.std.proofs.Common.{◌≡◌, ◌∙◌, ◌<◌, inl, inr, ℕ, zero, suc, [], ◌∷◌, ◌++◌, true, false, true≢false, ◌||◌, Option, Some, None, nat_eq, length, arith, refl, sym, ap, subst, get_or-set_other, get_or-set_same}
use Rattle.std.proofs.Math.ListN.{set}
use Rattle.std.proofs.Math.Seq.{get_or-append_seam}
use Rattle.std.specs.List.{list_any}
use Rattle.std.specs.Option.{IfSome}
use Rattle.std.proofs.lemmas.Bool.{eqb-true, eqb-false, false≢true, cases_order}
use Rattle.std.proofs.lemmas.Option.{none-some, same_Some}
use Rattle.std.proofs.lemmas.List.{length-append, length-set, get_or_append_left, get_or_past}
use Rattle.scope_rules.specs.Table.{Scoping}
use Rattle.scope_table.specs.Reading.{scope_at, scopes_up, ancestors, no_scope}
use Rattle.scope_table.specs.Editing.{new_scope, with_scope, with_parent, up, ParentsEnd, IsOutside}
use Rattle.scope_edits.proofs.Chains.{all_end, no_circle}

-- ---- a scope put into another

module _ (s : Scoping) (c : ℕ) (parent : Option ℕ) (low : c < length s.scopes) where
  other : (n : ℕ) → (n ≡ c → ⊥) → (scope_at (with_parent c parent s) n).parent ≡ (scope_at s n).parent
  other n apart = ap (λ x. x.parent) (get_or-set_other s.scopes c n (record (scope_at s c) { parent = parent }) no_scope apart)

  itself : (scope_at (with_parent c parent s) c).parent ≡ parent
  itself = ap (λ x. x.parent) (get_or-set_same s.scopes c (record (scope_at s c) { parent = parent }) no_scope low)

  -- where the scope isn't met, all stays
  apart_from : (most : ℕ) (n : Option ℕ) → list_any (nat_eq c) (scopes_up most s n) ≡ false → up most s n ≡ None → up most (with_parent c parent s) n ≡ None
  apart_from zero n out end = end
  apart_from (suc most) None out end = refl
  apart_from (suc most) (Some n) out end =
      elim (nat_eq c n) as (λ b. nat_eq c n ≡ b → b || list_any (nat_eq c) (scopes_up most s (scope_at s n).parent) ≡ false → up most (with_parent c parent s) (scope_at (with_parent c parent s) n).parent ≡ None) [
        | true ↦ λ _ e. absurd (true≢false e)
        | false ↦ λ ne e. ap (up most (with_parent c parent s)) (other n (λ is. eqb-false c n ne (sym is))) ∙ apart_from most (scope_at s n).parent e end
      ] refl out

  -- where it is met, it is some steps up from then on too
  found_first : (most : ℕ) (n : Option ℕ) → list_any (nat_eq c) (scopes_up most s n) ≡ true → (i : ℕ) × (up i (with_parent c parent s) n ≡ Some c)
  found_first zero n met = absurd (false≢true met)
  found_first (suc most) None met = absurd (false≢true met)
  found_first (suc most) (Some n) met =
      elim (nat_eq c n) as (λ b. nat_eq c n ≡ b → b || list_any (nat_eq c) (scopes_up most s (scope_at s n).parent) ≡ true → (i : ℕ) × (up i (with_parent c parent s) (Some n) ≡ Some c)) [
        | true ↦ λ e _. (0, ap Some (sym (eqb-true c n e)))
        | false ↦ λ ne e. let r = found_first most (scope_at s n).parent e in (suc r.0, ap (up r.0 (with_parent c parent s)) (other n (λ is. eqb-false c n ne (sym is))) ∙ r.1)
      ] refl met

  -- all end, if the parent does
  moved_end : (far : ℕ) → up far (with_parent c parent s) parent ≡ None → (steps : ℕ) (n : Option ℕ) → up steps s n ≡ None → (k : ℕ) × (up k (with_parent c parent s) n ≡ None)
  moved_end far top zero n end = (0, end)
  moved_end far top (suc steps) None end = (0, refl)
  moved_end far top (suc steps) (Some n) end =
      elim (nat_eq n c) as (λ b. nat_eq n c ≡ b → (k : ℕ) × (up k (with_parent c parent s) (Some n) ≡ None)) [
        | true ↦ λ e. (suc far, ap (λ m. up far (with_parent c parent s) (scope_at (with_parent c parent s) m).parent) (eqb-true n c e) ∙ ap (up far (with_parent c parent s)) itself ∙ top)
        | false ↦ λ e. let r = moved_end far top steps (scope_at s n).parent end in (suc r.0, ap (up r.0 (with_parent c parent s)) (other n (eqb-false n c e)) ∙ r.1)
      ] refl

  moved_there : ((n p : ℕ) → (scope_at s n).parent ≡ Some p → p < length s.scopes) → ((p : ℕ) → parent ≡ Some p → p < length s.scopes)
      → (n p : ℕ) → (scope_at (with_parent c parent s) n).parent ≡ Some p → p < length (with_parent c parent s).scopes
  moved_there there is_there n p is =
      let same : length (set s.scopes c (record (scope_at s c) { parent = parent })) ≡ length s.scopes = length-set s.scopes c (record (scope_at s c) { parent = parent }) in
      elim (nat_eq n c) as (λ b. nat_eq n c ≡ b → p < length (set s.scopes c (record (scope_at s c) { parent = parent }))) [
        | true ↦ λ e.
            let r = is_there p (sym itself ∙ sym (ap (λ m. (scope_at (with_parent c parent s) m).parent) (eqb-true n c e)) ∙ is) in
            omega (arith, r, same)
        | false ↦ λ e. let r = there n p (sym (other n (eqb-false n c e)) ∙ is) in omega (arith, r, same)
      ] refl

  moved_by : (far : ℕ) → up far (with_parent c parent s) parent ≡ None → ParentsEnd s → ((p : ℕ) → parent ≡ Some p → p < length s.scopes) → ParentsEnd (with_parent c parent s)
  moved_by far top h is_there = record {
    there = moved_there h.there is_there;
    end = λ n. moved_end far top (h.end n).0 (Some n) (h.end n).1;
  }

pub moved : (s : Scoping) (c : ℕ) (parent : Option ℕ) → ParentsEnd s → c < length s.scopes → IfSome parent (λ p. p < length s.scopes) → IfSome parent (λ p. IsOutside s c p) → ParentsEnd (with_parent c parent s)
moved s c None h low there out = moved_by s c None low 0 refl h (λ p e. absurd (none-some p e))
moved s c (Some p) h low there out =
    moved_by s c (Some p) low (length s.scopes) (apart_from s c (Some p) low (length s.scopes) (Some p) out (all_end s h p there)) h (λ q e. subst (λ j. j < length s.scopes) (same_Some p q e) there)

-- ---- a scope more

module _ (s : Scoping) (parent : Option ℕ) (flags : ℕ) where
  old : (n : ℕ) → n < length s.scopes → (scope_at (with_scope parent flags s) n).parent ≡ (scope_at s n).parent
  old n low = ap (λ x. x.parent) (get_or_append_left s.scopes (new_scope parent flags ∷ []) no_scope n low)

  last : (scope_at (with_scope parent flags s) (length s.scopes)).parent ≡ parent
  last = ap (λ x. x.parent) (get_or-append_seam s.scopes (new_scope parent flags) [] no_scope)

  past : (n : ℕ) → length s.scopes < n → (scope_at (with_scope parent flags s) n).parent ≡ None
  past n high = ap (λ x. x.parent) (get_or_past (s.scopes ++ new_scope parent flags ∷ []) n no_scope (let r = length-append s.scopes (new_scope parent flags ∷ []) in omega (arith, r, high)))

  -- what was there goes up as it did
  still : ((n p : ℕ) → (scope_at s n).parent ≡ Some p → p < length s.scopes) → (steps : ℕ) (n : Option ℕ) → ((m : ℕ) → n ≡ Some m → m < length s.scopes) → up steps s n ≡ None → up steps (with_scope parent flags s) n ≡ None
  still there zero n low end = end
  still there (suc steps) None low end = refl
  still there (suc steps) (Some n) low end = ap (up steps (with_scope parent flags s)) (old n (low n refl)) ∙ still there steps (scope_at s n).parent (there n) end

  parent_ends : ParentsEnd s → (o : Option ℕ) → ((m : ℕ) → o ≡ Some m → m < length s.scopes) → (k : ℕ) × (up k (with_scope parent flags s) o ≡ None)
  parent_ends h None low = (0, refl)
  parent_ends h (Some p) low = ((h.end p).0, still h.there (h.end p).0 (Some p) low (h.end p).1)

  added_end : ParentsEnd s → ((p : ℕ) → parent ≡ Some p → p < length s.scopes) → (n : ℕ) → (k : ℕ) × (up k (with_scope parent flags s) (Some n) ≡ None)
  added_end h is_there n =
      elim (cases_order n (length s.scopes)) [
        | inl e ↦ let r = parent_ends h parent is_there in (suc r.0, ap (λ m. up r.0 (with_scope parent flags s) (scope_at (with_scope parent flags s) m).parent) e ∙ ap (up r.0 (with_scope parent flags s)) last ∙ r.1)
        | inr (inl e) ↦ ((h.end n).0, still h.there (h.end n).0 (Some n) (λ m is. subst (λ j. j < length s.scopes) (same_Some n m is) e) (h.end n).1)
        | inr (inr e) ↦ (1, past n e)
      ]

  added_there : ParentsEnd s → ((p : ℕ) → parent ≡ Some p → p < length s.scopes) → (n p : ℕ) → (scope_at (with_scope parent flags s) n).parent ≡ Some p → p < length (s.scopes ++ new_scope parent flags ∷ [])
  added_there h is_there n p is =
      let longer = length-append s.scopes (new_scope parent flags ∷ []) in
      elim (cases_order n (length s.scopes)) [
        | inl e ↦ let r = is_there p (sym last ∙ sym (ap (λ m. (scope_at (with_scope parent flags s) m).parent) e) ∙ is) in omega (arith, r, longer)
        | inr (inl e) ↦ let r = h.there n p (sym (old n e) ∙ is) in omega (arith, r, longer)
        | inr (inr e) ↦ absurd (none-some p (sym (past n e) ∙ is))
      ]

some_there : (s : Scoping) (parent : Option ℕ) → IfSome parent (λ p. p < length s.scopes) → (p : ℕ) → parent ≡ Some p → p < length s.scopes
some_there s None h p is = absurd (none-some p is)
some_there s (Some q) h p is = subst (λ j. j < length s.scopes) (same_Some q p is) h

pub added : (s : Scoping) (parent : Option ℕ) (flags : ℕ) → ParentsEnd s → IfSome parent (λ p. p < length s.scopes) → ParentsEnd (with_scope parent flags s)
added s parent flags h is_there = record { there = added_there s parent flags h (some_there s parent is_there); end = added_end s parent flags h (some_there s parent is_there) }

-- ---- a scope put below itself makes a circle

pub must_be_outside : (s : Scoping) (c p : ℕ) → c < length s.scopes → ParentsEnd (with_parent c (Some p) s) → IsOutside s c p
must_be_outside s c p low h =
    elim (list_any (nat_eq c) (ancestors s p)) as (λ b. list_any (nat_eq c) (ancestors s p) ≡ b → b ≡ false) [
      | true ↦ λ e. let r = found_first s c (Some p) low (length s.scopes) (Some p) e in absurd (no_circle (with_parent c (Some p) s) r.0 c (h.end c).0 (h.end c).1 (ap (up r.0 (with_parent c (Some p) s)) (itself s c (Some p) low) ∙ r.1))
      | false ↦ λ e. refl
    ] refl
