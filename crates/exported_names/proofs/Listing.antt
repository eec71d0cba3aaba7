-- What lists of answers hold.
use Rattle.std.proofs.Common.{◌≡◌, ◌∙◌, ◌⊎◌, ◌≤◌, ◌<◌, inl, inr, ℕ, zero, suc, List, [], ◌∷◌, length, Bool, false, is_some, length-append, refl, sym, ap, subst, arith}
use Rattle.std.proofs.Math.ListN.{get_or-eq_default}
use Rattle.std.proofs.lemmas.List.{get_or_append_left, get_or_push}
use Rattle.symbol_sets.specs.Numbers.{has}
use Rattle.scope_rules.specs.Table.{Reference, Scoping}
use Rattle.scope_table.specs.Reading.{no_reference}
use Rattle.exported_names.specs.Answers.{answers, is_bound, bound_of}
use Rattle.rules.specs.DeadCode.Knows.{TellsBound}

pub below_or_above : (m n : ℕ) → (m < n) ⊎ (n ≤ m)
below_or_above m zero = inr (Prim.omega arith)
below_or_above zero (suc n) = inl (Prim.omega arith)
below_or_above (suc m) (suc n) = elim (below_or_above m n) [
  | inl l ↦ inl (Prim.omega (arith, l))
  | inr l ↦ inr (Prim.omega (arith, l))
]

length-answers : (asks : ℕ → Bool) (count : ℕ) → length (answers asks count) ≡ count
length-answers asks zero = refl
length-answers asks (suc count) = Prim.omega (arith, length-append (answers asks count) (asks count ∷ []), length-answers asks count)

pub answer : (asks : ℕ → Bool) (count n : ℕ) → n < count → has (answers asks count) n ≡ asks n
answer asks zero n l = absurd (Prim.omega (arith, l))
answer asks (suc count) n l = go (below_or_above n count) (answer asks count n)
  where
    go : (n < count) ⊎ (count ≤ n) → (n < count → has (answers asks count) n ≡ asks n) → has (answers asks (suc count)) n ≡ asks n
    go (inl m) before = get_or_append_left (answers asks count) (asks count ∷ []) false n (Prim.omega (arith, m, length-answers asks count)) ∙ before m
    go (inr m) before =
        let same : count ≡ n = Prim.omega (arith, l, m) in
        get_or_push (answers asks count) (asks count) false n (length-answers asks count ∙ same) ∙ ap asks same

pub no_answer : (asks : ℕ → Bool) (count n : ℕ) → count ≤ n → has (answers asks count) n ≡ false
no_answer asks count n l = get_or-eq_default (answers asks count) false (Prim.omega (arith, l, length-answers asks count))

pub bound_told : (s : Scoping) (v : List Bool) → v ≡ bound_of s → TellsBound s v
bound_told s v e = subst (TellsBound s) (sym e) (λ id. go id (below_or_above id (length s.references)))
  where
    go : (id : ℕ) → (id < length s.references) ⊎ (length s.references ≤ id) → has (bound_of s) id ≡ is_bound s id
    go id (inl l) = answer (is_bound s) (length s.references) id l
    go id (inr l) = no_answer (is_bound s) (length s.references) id l ∙ sym (ap (λ (r : Reference). is_some r.symbol) (get_or-eq_default s.references no_reference l))
