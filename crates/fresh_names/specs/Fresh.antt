-- What a generator answers is new, whatever is called.
use Rattle.std.specs.Prelude.{◌≡◌, ℕ, ◌<◌, false, List, [], ◌∷◌, IfSome}
use Rattle.std.specs.List.{All}
use Rattle.fresh_names.specs.Uid.{Uid, uid_of, known_at, is_later_than, with_name, fresh_name, with_fresh}

-- a name that is not answered any more: no fresh name is the same, or one of its base is known that is as late
abbrev pub IsCovered : List Uid → List ℕ → Type 0
IsCovered known name = IfSome (uid_of name) (λ u. is_later_than (known_at known u.base) u ≡ false)

-- some names are taken, and what is known says so
pub record Covers (known : List Uid) (taken : List (List ℕ)) : Type 0 where
  pub covered : All (IsCovered known) taken
  pub counted : (base : List ℕ) → IfSome (known_at known base) (λ u. 0 < u.count)

-- ---- a row of calls

pub data Call : Type 0 where
  add : List ℕ → Call
  create : List ℕ → Call

abbrev pub known_after : List Call → List Uid → List Uid
known_after [] known = known
known_after (add name ∷ calls) known = known_after calls (with_name name known)
known_after (create name ∷ calls) known = known_after calls (with_fresh name known)

-- what they are told and what they answer
abbrev pub names_of : List Call → List Uid → List (List ℕ)
names_of [] known = []
names_of (add name ∷ calls) known = name ∷ names_of calls (with_name name known)
names_of (create name ∷ calls) known = fresh_name name known ∷ names_of calls (with_fresh name known)
