-- Symbols are numbered in order of first declarations: each declaration has one, and two have one where they declare one
-- binding.
use Rattle.std.proofs.Common.{◌≡◌, ◌∙◌, ◌⊎◌, ◌+◌, ℕ, zero, suc, List, [], ◌∷◌, map, Bool, true, false, true≢false, slice_get, Option, Some, None, option_map, if◌then◌else◌, inl, inr, refl, sym, ap, arith, eqb-true, eq-eqb}
use Rattle.std.proofs.lemmas.Bool.{or_cases}
use Rattle.scope_rules.specs.Site.{BindingSite}
use Rattle.scope_rules.specs.Binding.{Binding, declared_by}
use Rattle.scope_rules.specs.Table.{same_binding, is_among, new_behind, symbols_of, number_from, is_number, references_to, symbol_at, symbols_from}
use Rattle.scope_laws.specs.Exact.{Among, NoneTwice}
use Rattle.scope_laws.proofs.Among.{among_map}
use Rattle.scope_laws.proofs.Bindings.{none_is_some, same_value, same_binding_true, same_binding_same}

-- ---- the number of a binding

pub record Numbered (next : ℕ) (bs : List Binding) (b : Binding) (number : ℕ) : Type 0 where
  pub place : ℕ
  pub is : number ≡ next + place
  pub stands : slice_get bs place ≡ Some b

place_in : (next : ℕ) (a : Binding) (bs : List Binding) (b : Binding) (number : ℕ) (t : Bool) → same_binding a b ≡ t
    → (number_from (suc next) bs b ≡ Some number → Numbered (suc next) bs b number)
    → (if t then Some next else number_from (suc next) bs b) ≡ Some number → Numbered next (a ∷ bs) b number
place_in next a bs b number true is others e = record { place = 0; is = sym (same_value e) ∙ Prim.omega arith; stands = ap Some (same_binding_true a b is) }
place_in next a bs b number false is others e = let n = others e in record { place = suc n.place; is = Prim.omega (arith, n.is); stands = n.stands }

pub numbered : (next : ℕ) (bs : List Binding) (b : Binding) (number : ℕ) → number_from next bs b ≡ Some number → Numbered next bs b number
numbered next [] b number e = absurd (none_is_some e)
numbered next (a ∷ bs) b number e = place_in next a bs b number (same_binding a b) refl (numbered (suc next) bs b number) e

pub record HasNumber (next : ℕ) (bs : List Binding) (b : Binding) : Type 0 where
  pub number : ℕ
  pub is : number_from next bs b ≡ Some number

number_in : (next : ℕ) (a : Binding) (bs : List Binding) (b : Binding) (t : Bool) → same_binding a b ≡ t
    → (a ≡ b) ⊎ HasNumber (suc next) bs b
    → (n : ℕ) × ((if t then Some next else number_from (suc next) bs b) ≡ Some n)
number_in next a bs b true is h = (next, refl)
number_in next a bs b false is (inl e) = absurd (true≢false (sym (same_binding_same b) ∙ ap (λ x. same_binding x b) (sym e) ∙ is))
number_in next a bs b false is (inr h) = (h.number, h.is)

pub has_number : (next : ℕ) (bs : List Binding) (b : Binding) → Among b bs → HasNumber next bs b
has_number next [] b h = absurd h
has_number next (a ∷ bs) b (inl e) = let n = number_in next a bs b (same_binding a b) refl (inl e) in record { number = n.0; is = n.1 }
has_number next (a ∷ bs) b (inr h) = let n = number_in next a bs b (same_binding a b) refl (inr (has_number (suc next) bs b h)) in record { number = n.0; is = n.1 }

-- one number is one binding's
pub one_number : (bs : List Binding) (a b : Binding) (n : ℕ) → number_from 0 bs a ≡ Some n → number_from 0 bs b ≡ Some n → a ≡ b
one_number bs a b n e f =
    let x = numbered 0 bs a n e in
    let y = numbered 0 bs b n f in
    let same : x.place ≡ y.place = Prim.omega (arith, x.is, y.is) in
    same_value (sym x.stands ∙ ap (slice_get bs) same ∙ y.stands)

-- ---- the bindings that are new

seen_or_new : (seen : List Binding) (a : Binding) (bs : List Binding) (b : Binding) (t : Bool) → is_among a seen ≡ t
    → ((a ≡ b) ⊎ ((is_among b seen ≡ true) ⊎ Among b (new_behind seen bs)))
    → ((a ≡ b) ⊎ ((is_among b (a ∷ seen) ≡ true) ⊎ Among b (new_behind (a ∷ seen) bs)))
    → (is_among b seen ≡ true) ⊎ Among b (if t then new_behind seen bs else a ∷ new_behind (a ∷ seen) bs)
seen_or_new seen a bs b true is (inl e) k = inl (ap (λ x. is_among x seen) (sym e) ∙ is)
seen_or_new seen a bs b true is (inr h) k = h
seen_or_new seen a bs b false is h (inl e) = inr (inl e)
seen_or_new seen a bs b false is h (inr (inr k)) = inr (inr k)
seen_or_new seen a bs b false is h (inr (inl k)) = elim (or_cases (same_binding a b) (is_among b seen) k) [
  | inl s ↦ inr (inl (same_binding_true a b s))
  | inr s ↦ inl s
]

new_or_seen : (seen : List Binding) (bs : List Binding) (b : Binding) → Among b bs → (is_among b seen ≡ true) ⊎ Among b (new_behind seen bs)
new_or_seen seen [] b h = absurd h
new_or_seen seen (a ∷ bs) b (inl e) = seen_or_new seen a bs b (is_among a seen) refl (inl e) (inl e)
new_or_seen seen (a ∷ bs) b (inr h) = seen_or_new seen a bs b (is_among a seen) refl (inr (new_or_seen seen bs b h)) (inr (new_or_seen (a ∷ seen) bs b h))

among_symbols : (bs : List Binding) (b : Binding) → Among b bs → Among b (new_behind [] bs)
among_symbols bs b h = elim (new_or_seen [] bs b h) [
  | inl e ↦ absurd (true≢false (sym e))
  | inr k ↦ k
]

pub has_symbol : (bs : List BindingSite) (b : BindingSite) → Among b bs → HasNumber 0 (symbols_of bs) (declared_by b)
has_symbol bs b h = has_number 0 (symbols_of bs) (declared_by b) (among_symbols (map declared_by bs) (declared_by b) (among_map declared_by b bs h))

-- ---- the references of a symbol

pub record At (uses : List (Option ℕ)) (symbol next id : ℕ) : Type 0 where
  pub place : ℕ
  pub is : id ≡ next + place
  pub uses_it : slice_get uses place ≡ Some (Some symbol)

is_number_true : (n : ℕ) (o : Option ℕ) → is_number n o ≡ true → o ≡ Some n
is_number_true n None e = absurd (true≢false (sym e))
is_number_true n (Some m) e = ap Some (eqb-true m n e)

pub is_number_same : (n : ℕ) → is_number n (Some n) ≡ true
is_number_same n = eq-eqb n n refl

behind_it : (symbol next id : ℕ) (o : Option ℕ) (uses : List (Option ℕ)) → At uses symbol (suc next) id → At (o ∷ uses) symbol next id
behind_it symbol next id o uses a = record { place = suc a.place; is = Prim.omega (arith, a.is); uses_it = a.uses_it }

listed_if : (symbol next id : ℕ) (o : Option ℕ) (uses : List (Option ℕ)) (t : Bool) → is_number symbol o ≡ t
    → (Among id (references_to symbol (suc next) uses) → At uses symbol (suc next) id)
    → Among id (if t then next ∷ references_to symbol (suc next) uses else references_to symbol (suc next) uses) → At (o ∷ uses) symbol next id
listed_if symbol next id o uses true is others (inl e) = record { place = 0; is = sym e ∙ Prim.omega arith; uses_it = ap Some (is_number_true symbol o is) }
listed_if symbol next id o uses true is others (inr h) = behind_it symbol next id o uses (others h)
listed_if symbol next id o uses false is others h = behind_it symbol next id o uses (others h)

pub listed_at : (symbol next id : ℕ) (uses : List (Option ℕ)) → Among id (references_to symbol next uses) → At uses symbol next id
listed_at symbol next id [] h = absurd h
listed_at symbol next id (o ∷ uses) h = listed_if symbol next id o uses (is_number symbol o) refl (listed_at symbol (suc next) id uses) h

pub at_listed : (symbol next id : ℕ) (uses : List (Option ℕ)) (place : ℕ) → id ≡ next + place → slice_get uses place ≡ Some (Some symbol) → Among id (references_to symbol next uses)
at_listed symbol next id [] place is e = absurd (none_is_some e)
at_listed symbol next id (o ∷ uses) zero is e =
    let yes : is_number symbol o ≡ true = ap (is_number symbol) (same_value e) ∙ is_number_same symbol in
    rw yes (inl (Prim.omega (arith, is)))
at_listed symbol next id (o ∷ uses) (suc place) is e = in_front (is_number symbol o) (at_listed symbol (suc next) id uses place (Prim.omega (arith, is)) e)
  where
    in_front : (t : Bool) → Among id (references_to symbol (suc next) uses) → Among id (if t then next ∷ references_to symbol (suc next) uses else references_to symbol (suc next) uses)
    in_front true h = inr h
    in_front false h = h

once_if : (symbol next : ℕ) (uses : List (Option ℕ)) (t : Bool) → NoneTwice (references_to symbol (suc next) uses) → NoneTwice (if t then next ∷ references_to symbol (suc next) uses else references_to symbol (suc next) uses)
once_if symbol next uses true h = (λ k. let a = listed_at symbol (suc next) next uses k in Prim.omega (arith, a.is), h)
once_if symbol next uses false h = h

pub listed_once : (symbol next : ℕ) (uses : List (Option ℕ)) → NoneTwice (references_to symbol next uses)
listed_once symbol next [] = tt
listed_once symbol next (o ∷ uses) = once_if symbol next uses (is_number symbol o) (listed_once symbol (suc next) uses)

-- ---- the symbols of the table

pub symbols_at : (bs : List BindingSite) (uses : List (Option ℕ)) (next : ℕ) (all : List Binding) (k : ℕ) → slice_get (symbols_from bs uses next all) k ≡ option_map (symbol_at bs uses (next + k)) (slice_get all k)
symbols_at bs uses next [] k = refl
symbols_at bs uses next (b ∷ all) zero = ap (λ (n : ℕ). Some (symbol_at bs uses n b)) (Prim.omega arith)
symbols_at bs uses next (b ∷ all) (suc k) = symbols_at bs uses (suc next) all k ∙ ap (λ (n : ℕ). option_map (symbol_at bs uses n) (slice_get all k)) (Prim.omega arith)
