-- Names that no program has yet. A name is read as some `_`, a base, and a number behind it: `__foo7` as two, `foo` and 7. Of the names that are
-- taken the greatest is known for each base, and a fresh name is the next after it.
use Rattle.std.specs.Prelude.{ℕ, ◌+◌, ◌-◌, ◌^◌, ◌==◌, ◌||◌, ◌&&◌, nat_lt, Bool, true, List, [], ◌∷◌, ◌++◌, length, take, drop, map, replicate, Option, Some, None, option_map, if◌then◌else◌, decimal}
use Rattle.std.specs.List.{prefix_len, suffix_len}
use Rattle.std.specs.Char.{is_ascii_digit}
use Rattle.std.specs.Ordering.{match_ordering, nat_cmp}
use Rattle.std.specs.Cmp.Lexicographic.{slice_cmp}
use Rattle.std.specs.Str.{bytes_eq}
use Rattle.std.specs.Str.Parse.{digits_value}
use Rattle.scope_rules.specs.Table.{Scoping}

-- ---- names, read and written

pub record Uid : Type 0 where
  pub base : List ℕ
  -- how many `_` stand before it
  pub count : ℕ
  -- the number behind it; 1 is not written
  pub postfix : ℕ

abbrev pub is_underscore : ℕ → Bool
is_underscore c = c == 95

abbrev pub underscores : List ℕ → ℕ
underscores name = prefix_len is_underscore name

abbrev pub without_underscores : List ℕ → List ℕ
without_underscores name = drop (underscores name) name

-- where the digits begin that a name ends with
abbrev pub digits_start : List ℕ → ℕ
digits_start name = length name - suffix_len is_ascii_digit name

abbrev pub base_of : List ℕ → List ℕ
base_of name = take (digits_start (without_underscores name)) (without_underscores name)

abbrev pub digits_of : List ℕ → List ℕ
digits_of name = drop (digits_start (without_underscores name)) (without_underscores name)

-- the number that digits write; none where no fresh name has these
abbrev pub postfix_in : List ℕ → Option ℕ
postfix_in [] = Some 1
postfix_in (d ∷ ds) =
    if d == 48 || nat_lt 10 (length (d ∷ ds)) || nat_lt (2 ^ 32 - 1) (digits_value 10 (d ∷ ds)) || digits_value 10 (d ∷ ds) == 1 then None
    else Some (digits_value 10 (d ∷ ds))

-- a name as it is read; none where no fresh name is the same
abbrev pub uid_of : List ℕ → Option Uid
uid_of name =
    if underscores name == 0 then None
    else option_map (λ n. record { base = base_of name; count = underscores name; postfix = n }) (postfix_in (digits_of name))

abbrev pub digits_behind : ℕ → List ℕ
digits_behind n = if n == 1 then [] else decimal n

abbrev pub written : Uid → List ℕ
written u = replicate u.count 95 ++ (u.base ++ digits_behind u.postfix)

-- ---- what is known of the names that are taken: of each base one, in the order of the bases

abbrev pub known_at : List Uid → (base : List ℕ) → Option Uid
known_at [] base = None
known_at (u ∷ us) base = if bytes_eq base u.base then Some u else known_at us base

abbrev pub with_uid : Uid → List Uid → List Uid
with_uid u [] = u ∷ []
with_uid u (v ∷ vs) =
    match_ordering (slice_cmp nat_cmp u.base v.base) (u ∷ v ∷ vs) (record { base = v.base; count = u.count; postfix = u.postfix } ∷ vs) (v ∷ with_uid u vs)

-- more `_` count more than any number behind
abbrev pub is_later : Uid → Uid → Bool
is_later u v = nat_lt v.count u.count || (u.count == v.count && nat_lt v.postfix u.postfix)

abbrev pub is_later_than : Option Uid → Uid → Bool
is_later_than None u = true
is_later_than (Some v) u = is_later u v

abbrev pub raised_to : Option Uid → List Uid → List Uid
raised_to None known = known
raised_to (Some u) known = if is_later_than (known_at known u.base) u then with_uid u known else known

-- with a name that is taken
abbrev pub with_name : List ℕ → List Uid → List Uid
with_name name known = raised_to (uid_of name) known

abbrev pub with_names : List (List ℕ) → List Uid → List Uid
with_names [] known = known
with_names (x ∷ xs) known = with_names xs (with_name x known)

abbrev pub names_in : Scoping → List (List ℕ)
names_in s = map (λ x. x.name) s.symbols ++ map (λ u. u.name) s.unresolved

-- ---- fresh names

abbrev pub next_after : (base : List ℕ) → Option Uid → Uid
next_after base None = record { base = base; count = 1; postfix = 1 }
next_after base (Some u) =
    if nat_lt u.postfix (2 ^ 32 - 1) then record { base = base; count = u.count; postfix = u.postfix + 1 }
    else record { base = base; count = u.count + 1; postfix = 2 }

abbrev pub fresh_uid : List ℕ → List Uid → Uid
fresh_uid name known = next_after (base_of name) (known_at known (base_of name))

abbrev pub fresh_name : List ℕ → List Uid → List ℕ
fresh_name name known = written (fresh_uid name known)

abbrev pub with_fresh : List ℕ → List Uid → List Uid
with_fresh name known = with_uid (fresh_uid name known) known
