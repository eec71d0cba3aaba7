-- What edits leave in memory, as definitions have it.
use Rattle.std.proofs.Common.{◌≡◌, ◌∙◌, ◌<◌, ◌≤◌, ◌+◌, ℕ, zero, suc, List, [], ◌∷◌, ◌++◌, Bool, true, false, not, cond, nat_eq, Some, None, if◌then◌else◌, map, length, get_or, arith, refl, sym, ap}
use Rattle.std.proofs.Math.ListN.{set}
use Rattle.std.specs.List.{filter}
use Rattle.std.specs.Str.{bytes_eq}
use Rattle.std.proofs.lemmas.List.{map-set, get_or-map}
use Rattle.std.proofs.lemmas.Option.{none-some, same_Some}
use Rattle.js_syntax.specs.declared.scalar.ReferenceId.{ReferenceId}
use Rattle.scope_rules.specs.Table.{Symbol, Unresolved}
use Rattle.scope_table.specs.Kept.{KeptSymbol, kept_without, told}
use Rattle.scope_table.specs.Reading.{no_symbol}
use Rattle.scope_table.specs.Unbound.{with_use, place_of}
use Rattle.scope_table.specs.Editing.{without, symbol_without, name_without, put_use, take_use}

-- ---- lists of references

pub filtered : (away : ℕ → Bool) (rs : List ReferenceId) → map (λ r. r.0) (filter (λ r. not (away r.0)) rs) ≡ without away (map (λ r. r.0) rs)
filtered away [] = refl
filtered away (r ∷ rs) =
    elim (not (away r.0)) as
    (λ b. map (λ x. x.0) (cond b (r ∷ filter (λ x. not (away x.0)) rs) (filter (λ x. not (away x.0)) rs)) ≡ cond b (r.0 ∷ without away (map (λ x. x.0) rs)) (without away (map (λ x. x.0) rs)))
    [ true ↦ ap (λ xs. r.0 ∷ xs) (filtered away rs) | false ↦ filtered away rs ]

-- ---- symbols

-- one of them changed, and so what a table says of it
pub changed_told : (change : KeptSymbol → KeptSymbol) (alter : Symbol → Symbol) → ((k : KeptSymbol) → told (change k) ≡ alter (told k))
    → (ks : List KeptSymbol) (i : ℕ) (old new : KeptSymbol) → i < length ks → old ≡ get_or ks i old → new ≡ change old → map told (set ks i new) ≡ set (map told ks) i (alter (get_or (map told ks) i no_symbol))
changed_told change alter same ks i old new within at is =
    map-set told ks i new ∙ ap (set (map told ks) i) (ap told is ∙ same old ∙ ap alter (ap told at ∙ sym (get_or-map told ks i old no_symbol within)))

pub told_without : (away : ℕ → Bool) (ks : List KeptSymbol) → map told (map (kept_without away) ks) ≡ map (symbol_without away) (map told ks)
told_without away [] = refl
told_without away (k ∷ ks) = ap (λ ss. told (kept_without away k) ∷ ss) (told_without away ks)

-- ---- names that nothing declares

pub place_within : (x : List ℕ) (n m : ℕ) (us : List Unresolved) → place_of x n us ≡ Some m → (n ≤ m) × (m < n + length us)
place_within x n m [] found = absurd (none-some m found)
place_within x n m (u ∷ us) found =
    elim (bytes_eq u.name x) as (λ b. (if b then Some n else place_of x (suc n) us) ≡ Some m → (n ≤ m) × (m < n + length (u ∷ us))) [
      | true ↦ λ e. let same = same_Some n m e in (omega (arith, same), omega (arith, same))
      | false ↦ λ e. let r = place_within x (suc n) m us e in (omega (arith, r.0), omega (arith, r.0, r.1))
    ] found

module _ (x : List ℕ) (change : Unresolved → Unresolved) where
  -- the first item of the name is changed
  abbrev at_first : List Unresolved → List Unresolved
  at_first [] = []
  at_first (u ∷ us) = if bytes_eq u.name x then change u ∷ us else u ∷ at_first us

  first_set : (n m k : ℕ) (us : List Unresolved) (old new : Unresolved) → m ≡ n + k → place_of x n us ≡ Some m → old ≡ get_or us k old → new ≡ change old → set us k new ≡ at_first us
  first_set n m k [] old new is found at now = absurd (none-some m found)
  first_set n m zero (u ∷ us) old new is found at now =
      elim (bytes_eq u.name x) as (λ b. (if b then Some n else place_of x (suc n) us) ≡ Some m → new ∷ us ≡ (if b then change u ∷ us else u ∷ at_first us))
      [ true ↦ λ e. ap (λ v. v ∷ us) (now ∙ ap change at) | false ↦ λ e. let r = place_within x (suc n) m us e in absurd (omega (arith, is, r.0)) ] found
  first_set n m (suc k) (u ∷ us) old new is found at now =
      elim (bytes_eq u.name x) as (λ b. (if b then Some n else place_of x (suc n) us) ≡ Some m → u ∷ set us k new ≡ (if b then change u ∷ us else u ∷ at_first us))
      [ true ↦ λ e. let same = same_Some n m e in absurd (omega (arith, is, same)) | false ↦ λ e. ap (λ vs. u ∷ vs) (first_set (suc n) m k us old new (omega (arith, is)) e at now) ] found

put_first : (x : List ℕ) (r n m : ℕ) (us : List Unresolved) → place_of x n us ≡ Some m → at_first x (with_use r) us ≡ put_use x r us
put_first x r n m [] found = absurd (none-some m found)
put_first x r n m (u ∷ us) found =
    elim (bytes_eq u.name x) as
    (λ b. (if b then Some n else place_of x (suc n) us) ≡ Some m → (if b then with_use r u ∷ us else u ∷ at_first x (with_use r) us) ≡ (if b then with_use r u ∷ us else u ∷ put_use x r us))
    [ true ↦ λ e. refl | false ↦ λ e. ap (λ vs. u ∷ vs) (put_first x r (suc n) m us e) ] found

pub put_at : (x : List ℕ) (r m : ℕ) (us : List Unresolved) (old new : Unresolved) → place_of x 0 us ≡ Some m → old ≡ get_or us m old → new ≡ with_use r old → set us m new ≡ put_use x r us
put_at x r m us old new found at now = first_set x (with_use r) 0 m m us old new (omega arith) found at now ∙ put_first x r 0 m us found

pub put_last : (x : List ℕ) (r n : ℕ) (us : List Unresolved) → place_of x n us ≡ None → us ++ record { name = x; references = r ∷ [] } ∷ [] ≡ put_use x r us
put_last x r n [] none = refl
put_last x r n (u ∷ us) none =
    elim (bytes_eq u.name x) as
    (λ b. (if b then Some n else place_of x (suc n) us) ≡ None → u ∷ (us ++ record { name = x; references = r ∷ [] } ∷ []) ≡ (if b then with_use r u ∷ us else u ∷ put_use x r us))
    [ true ↦ λ e. absurd (none-some n (sym e)) | false ↦ λ e. ap (λ vs. u ∷ vs) (put_last x r (suc n) us e) ] none

take_first : (x : List ℕ) (r : ℕ) (us : List Unresolved) → at_first x (name_without (nat_eq r)) us ≡ take_use x r us
take_first x r [] = refl
take_first x r (u ∷ us) =
    ap (λ vs. if bytes_eq u.name x then name_without (nat_eq r) u ∷ us else u ∷ vs) (take_first x r us)

pub take_at : (x : List ℕ) (r m : ℕ) (us : List Unresolved) (old new : Unresolved) → place_of x 0 us ≡ Some m → old ≡ get_or us m old → new ≡ name_without (nat_eq r) old
    → set us m new ≡ take_use x r us
take_at x r m us old new found at now = first_set x (name_without (nat_eq r)) 0 m m us old new (omega arith) found at now ∙ take_first x r us

pub take_none : (x : List ℕ) (r n : ℕ) (us : List Unresolved) → place_of x n us ≡ None → us ≡ take_use x r us
take_none x r n [] none = refl
take_none x r n (u ∷ us) none =
    elim (bytes_eq u.name x) as
    (λ b. (if b then Some n else place_of x (suc n) us) ≡ None → u ∷ us ≡ (if b then name_without (nat_eq r) u ∷ us else u ∷ take_use x r us))
    [ true ↦ λ e. absurd (none-some n (sym e)) | false ↦ λ e. ap (λ vs. u ∷ vs) (take_none x r (suc n) us e) ] none
