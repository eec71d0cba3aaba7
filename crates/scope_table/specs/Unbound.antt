-- Names that nothing declares, in memory as definitions have them, and their numbers.
use Rattle.std.specs.Prelude.{◌≡◌, ℕ, suc, List, [], ◌∷◌, ◌++◌, Option, Some, None, option_map, is_some, length, if◌then◌else◌}
use Rattle.std.specs.Cmp.Lexicographic.{slice_cmp}
use Rattle.std.specs.Ordering.{nat_cmp}
use Rattle.std.specs.Str.{bytes_eq}
use Rattle.std.specs.BTreeMap as tree
use Rattle.std.specs.BTreeMap.{BTreeMap}
use Rattle.scope_rules.specs.Table.{Unresolved}
use denote.Ref.{Bor}

abbrev pub name_told : Option (Bor (List ℕ)) → Option (List ℕ)
name_told x = option_map (λ s. s.now) x

abbrev pub number_of : BTreeMap (Bor (List ℕ)) ℕ → List ℕ → Option ℕ
number_of numbers x = tree.get_by (λ k. slice_cmp nat_cmp x k.now) numbers

abbrev pub blank_name : List ℕ → Unresolved
blank_name x = record { name = x; references = [] }

abbrev pub with_use : ℕ → Unresolved → Unresolved
with_use r u = record { name = u.name; references = u.references ++ r ∷ [] }

-- the place of the first item of a name
abbrev pub place_of : List ℕ → (next : ℕ) → List Unresolved → Option ℕ
place_of x next [] = None
place_of x next (u ∷ us) = if bytes_eq u.name x then Some next else place_of x (suc next) us

-- a name has a number, and each other has the one that it had
pub record IsNumbered (x : List ℕ) (numbers : BTreeMap (Bor (List ℕ)) ℕ) (names : List Unresolved) (after : BTreeMap (Bor (List ℕ)) ℕ) (more : List Unresolved) : Type 0 where
  pub listed : more ≡ (if is_some (number_of numbers x) then names else names ++ blank_name x ∷ [])
  pub numbered : (q : List ℕ) → number_of after q ≡ (if is_some (number_of numbers x) then number_of numbers q else if bytes_eq x q then Some (length names) else number_of numbers q)

abbrev pub IsCounted : Option (List ℕ) → (numbers : BTreeMap (Bor (List ℕ)) ℕ) → (names : List Unresolved) → (after : BTreeMap (Bor (List ℕ)) ℕ) → (more : List Unresolved) → Type 0
IsCounted None numbers names after more = (more ≡ names) × ((q : List ℕ) → number_of after q ≡ number_of numbers q)
IsCounted (Some x) numbers names after more = IsNumbered x numbers names after more
