-- Fresh names are new.
use Rattle.std.proofs.Common.{◌≡◌, ◌∙◌, ℕ, ◌+◌, ◌-◌, ◌^◌, ◌<◌, ◌==◌, nat_lt, Bool, true, false, if◌then◌else◌, Option, Some, None, List, [], ◌∷◌, ◌++◌, IfSome, Less, Equal, Greater, inl, inr, refl, ap, sym, subst, arith}
use Rattle.std.specs.List.{All, Contains}
use Rattle.std.specs.Str.{bytes_eq}
use Rattle.std.specs.Ordering.{match_ordering, nat_cmp, is_eq}
use Rattle.std.specs.Cmp.Lexicographic.{slice_cmp}
use Rattle.std.proofs.lemmas.Bool.{ltb-true, eqb-false, cases_eq, false_from_ne_true}
use Rattle.std.proofs.lemmas.Bool.Decides.{nat_tests}
use Rattle.std.proofs.lemmas.Map.Text.{is_eq-slice_cmp}
use Rattle.std.proofs.lemmas.Slice.Eq.{bytes_eq-Decides}
use Rattle.std.proofs.lemmas.List.Elements.{All-nil, All-cons, All-append, All-weaker, All-contains}
use Rattle.fresh_names.specs.Uid.{Uid, underscores, base_of, digits_of, postfix_in, uid_of, known_at, with_uid, is_later, is_later_than, raised_to, with_name, with_names, next_after, fresh_uid, fresh_name, with_fresh}
use Rattle.fresh_names.specs.Fresh.{IsCovered, Covers, Call, add, create, known_after, names_of}
use Rattle.fresh_names.proofs.Written.{IsBase, base_is, read_with, read_by, read_back}

-- ---- what is known of a base after one is put

bytes_same : (x : List ℕ) → bytes_eq x x ≡ true
bytes_same x = (bytes_eq-Decides x x).1 refl

bytes_apart : (x y z : List ℕ) → bytes_eq x y ≡ true → bytes_eq z y ≡ false → bytes_eq x z ≡ false
bytes_apart x y z same other = false_from_ne_true (bytes_eq x z) (λ e. cc (other, ap (λ w. bytes_eq w y) (sym ((bytes_eq-Decides x z).0 e)) ∙ same))

pub put_get : (u : Uid) (known : List Uid) (x : List ℕ) → known_at (with_uid u known) x ≡ (if bytes_eq x u.base then Some u else known_at known x)
put_get u [] x = refl
put_get u (v ∷ vs) x =
    elim (slice_cmp nat_cmp u.base v.base) as
    (λ o. slice_cmp nat_cmp u.base v.base ≡ o →
    known_at (match_ordering o (u ∷ v ∷ vs) (record { base = v.base; count = u.count; postfix = u.postfix } ∷ vs) (v ∷ with_uid u vs)) x
    ≡ (if bytes_eq x u.base then Some u else if bytes_eq x v.base then Some v else known_at vs x)) [
      | Less ↦ λ o. refl
      | Equal ↦ λ o.
          let same : u.base ≡ v.base = (bytes_eq-Decides u.base v.base).0 (sym (is_eq-slice_cmp u.base v.base) ∙ ap is_eq o) in
          elim (bytes_eq x v.base) as
          (λ c. bytes_eq x v.base ≡ c → (if c then Some (record { base = v.base; count = u.count; postfix = u.postfix }) else known_at vs x) ≡ (if bytes_eq x u.base then Some u else if c then Some v else known_at vs x)) [
            | true ↦ λ e. ap (λ b. Some (record { base = b; count = u.count; postfix = u.postfix })) (sym same) ∙ sym (ap (λ d. if d then Some u else Some v) (ap (bytes_eq x) same ∙ e))
            | false ↦ λ e. sym (ap (λ d. if d then Some u else known_at vs x) (ap (bytes_eq x) same ∙ e))
          ] refl
      | Greater ↦ λ o.
          let other : bytes_eq u.base v.base ≡ false = sym (is_eq-slice_cmp u.base v.base) ∙ ap is_eq o in
          elim (bytes_eq x v.base) as
          (λ c. bytes_eq x v.base ≡ c → (if c then Some v else known_at (with_uid u vs) x) ≡ (if bytes_eq x u.base then Some u else if c then Some v else known_at vs x)) [
            | true ↦ λ e. sym (ap (λ d. if d then Some u else Some v) (bytes_apart x v.base u.base e other))
            | false ↦ λ e. put_get u vs x
          ] refl
    ] refl

-- ---- what is later

later_than_itself : (u : Uid) → is_later u u ≡ false
later_than_itself u = grind (arith, nat_tests)

-- the one that is put is later, so what was not late is not
not_later : (o : Option Uid) (u v : Uid) → is_later_than o u ≡ true → is_later_than o v ≡ false → is_later v u ≡ false
not_later None u v late early = absurd cc
not_later (Some w) u v late early = grind (arith, nat_tests)

put_covers : (known : List Uid) (u : Uid) (v : Uid) → is_later_than (known_at known u.base) u ≡ true → is_later_than (known_at known v.base) v ≡ false → is_later_than (known_at (with_uid u known) v.base) v ≡ false
put_covers known u v late early =
    ap (λ o. is_later_than o v) (put_get u known v.base)
    ∙ elim (bytes_eq v.base u.base) as (λ c. bytes_eq v.base u.base ≡ c → is_later_than (if c then Some u else known_at known v.base) v ≡ false) [
      | true ↦ λ e. not_later (known_at known u.base) u v late (ap (λ b. is_later_than (known_at known b) v) (sym ((bytes_eq-Decides v.base u.base).0 e)) ∙ early)
      | false ↦ λ e. early
    ] refl

if_some : (o : Option Uid) (P Q : Uid → Type 0) → ((u : Uid) → P u → Q u) → IfSome o P → IfSome o Q
if_some None P Q step h = tt
if_some (Some u) P Q step h = step u h

put_keeps : (known : List Uid) (u : Uid) (name : List ℕ) → is_later_than (known_at known u.base) u ≡ true → IsCovered known name → IsCovered (with_uid u known) name
put_keeps known u name late is = if_some (uid_of name) (λ v. is_later_than (known_at known v.base) v ≡ false) (λ v. is_later_than (known_at (with_uid u known) v.base) v ≡ false) (λ v early. put_covers known u v late early) is

put_is_there : (known : List Uid) (u : Uid) → is_later_than (known_at (with_uid u known) u.base) u ≡ false
put_is_there known u = ap (λ o. is_later_than o u) (put_get u known u.base ∙ ap (λ c. if c then Some u else known_at known u.base) (bytes_same u.base)) ∙ later_than_itself u

abbrev AreCounted : List Uid → Type 0
AreCounted known = (base : List ℕ) → IfSome (known_at known base) (λ u. 0 < u.count)

put_counts : (known : List Uid) (u : Uid) → 0 < u.count → AreCounted known → AreCounted (with_uid u known)
put_counts known u some counted base =
    subst (λ o. IfSome o (λ v. 0 < v.count)) (sym (put_get u known base))
    (elim (bytes_eq base u.base) as (λ c. IfSome (if c then Some u else known_at known base) (λ v. 0 < v.count)) [ true ↦ some | false ↦ counted base ])

-- ---- a name that is told

raised_keeps : (known : List Uid) (o : Option Uid) (name : List ℕ) → IsCovered known name → IsCovered (raised_to o known) name
raised_keeps known None name is = is
raised_keeps known (Some u) name is =
    elim (is_later_than (known_at known u.base) u) as (λ c. is_later_than (known_at known u.base) u ≡ c → IsCovered (if c then with_uid u known else known) name)
    [ true ↦ λ late. put_keeps known u name late is | false ↦ λ early. is ] refl

raised_covers : (known : List Uid) (o : Option Uid) → IfSome o (λ u. is_later_than (known_at (raised_to o known) u.base) u ≡ false)
raised_covers known None = tt
raised_covers known (Some u) =
    elim (is_later_than (known_at known u.base) u) as (λ c. is_later_than (known_at known u.base) u ≡ c → is_later_than (known_at (if c then with_uid u known else known) u.base) u ≡ false)
    [ true ↦ λ late. put_is_there known u | false ↦ λ early. early ] refl

raised_counts : (known : List Uid) (o : Option Uid) → IfSome o (λ u. 0 < u.count) → AreCounted known → AreCounted (raised_to o known)
raised_counts known None some counted = counted
raised_counts known (Some u) some counted =
    elim (is_later_than (known_at known u.base) u) as (λ c. AreCounted (if c then with_uid u known else known)) [ true ↦ put_counts known u some counted | false ↦ counted ]

some_counts : (count : ℕ) (base : List ℕ) (o : Option ℕ) → 0 < count → IfSome (read_with false count base o) (λ u. 0 < u.count)
some_counts count base None some = tt
some_counts count base (Some n) some = some

read_counts : (count : ℕ) (base : List ℕ) (o : Option ℕ) → IfSome (read_by count base o) (λ u. 0 < u.count)
read_counts count base o =
    elim (count == 0) as (λ c. (count == 0) ≡ c → IfSome (read_with c count base o) (λ u. 0 < u.count))
    [ true ↦ λ e. tt | false ↦ λ e. let some : 0 < count = elim (cases_eq count 0) [ inl none ↦ absurd (eqb-false count 0 e none) | inr some ↦ omega (arith, some) ] in some_counts count base o some ] refl

name_counts : (name : List ℕ) → IfSome (uid_of name) (λ u. 0 < u.count)
name_counts name = read_counts (underscores name) (base_of name) (postfix_in (digits_of name))

-- ---- a fresh name

abbrev picked : Bool → Uid → Uid → Uid
picked c u v = if c then u else v

next_base : (base : List ℕ) (o : Option Uid) → (next_after base o).base ≡ base
next_base base None = refl
next_base base (Some u) =
    elim (nat_lt u.postfix (2 ^ 32 - 1)) as (λ c. (picked c (record { base = base; count = u.count; postfix = u.postfix + 1 }) (record { base = base; count = u.count + 1; postfix = 2 })).base ≡ base)
    [ true ↦ refl | false ↦ refl ]

next_is_later : (base : List ℕ) (o : Option Uid) → is_later_than o (next_after base o) ≡ true
next_is_later base None = refl
next_is_later base (Some u) =
    elim (nat_lt u.postfix (2 ^ 32 - 1)) as (λ c. is_later (picked c (record { base = base; count = u.count; postfix = u.postfix + 1 }) (record { base = base; count = u.count + 1; postfix = 2 })) u ≡ true)
    [ true ↦ grind (arith, nat_tests) | false ↦ grind (arith, nat_tests) ]

record IsNext (u : Uid) : Type 0 where
  some : 0 < u.count
  low : 0 < u.postfix
  high : u.postfix < 2 ^ 32

next_is : (base : List ℕ) (o : Option Uid) → IfSome o (λ u. 0 < u.count) → IsNext (next_after base o)
next_is base None counted = record { some = omega arith; low = omega arith; high = omega arith }
next_is base (Some u) counted =
    elim (nat_lt u.postfix (2 ^ 32 - 1)) as
    (λ c. nat_lt u.postfix (2 ^ 32 - 1) ≡ c → IsNext (picked c (record { base = base; count = u.count; postfix = u.postfix + 1 }) (record { base = base; count = u.count + 1; postfix = 2 })))
    [ true ↦ λ e. record { some = counted; low = omega arith; high = omega (arith, ltb-true u.postfix (2 ^ 32 - 1) e) } | false ↦ λ e. record { some = omega arith; low = omega arith; high = omega arith } ] refl

fresh_base : (name : List ℕ) (known : List Uid) → (fresh_uid name known).base ≡ base_of name
fresh_base name known = next_base (base_of name) (known_at known (base_of name))

fresh_is_later : (name : List ℕ) (known : List Uid) → is_later_than (known_at known (fresh_uid name known).base) (fresh_uid name known) ≡ true
fresh_is_later name known = ap (λ b. is_later_than (known_at known b) (fresh_uid name known)) (fresh_base name known) ∙ next_is_later (base_of name) (known_at known (base_of name))

pub read_fresh : (name : List ℕ) (known : List Uid) → ((base : List ℕ) → IfSome (known_at known base) (λ u. 0 < u.count)) → uid_of (fresh_name name known) ≡ Some (fresh_uid name known)
read_fresh name known counted =
    let is = next_is (base_of name) (known_at known (base_of name)) (counted (base_of name)) in
    read_back (fresh_uid name known) (subst IsBase (sym (fresh_base name known)) (base_is name)) is.some is.low is.high

-- ---- what is covered

pub told : (known : List Uid) (taken : List (List ℕ)) (name : List ℕ) → Covers known taken → Covers (with_name name known) (name ∷ taken)
told known taken name is = record {
  covered = All-cons (IsCovered (with_name name known)) name taken (raised_covers known (uid_of name))
      (All-weaker (IsCovered known) (IsCovered (with_name name known)) (λ x. raised_keeps known (uid_of name) x) taken is.covered);
  counted = raised_counts known (uid_of name) (name_counts name) is.counted;
}

fresh_covers : (known : List Uid) (name : List ℕ) → AreCounted known → IsCovered (with_fresh name known) (fresh_name name known)
fresh_covers known name counted =
    subst (λ o. IfSome o (λ u. is_later_than (known_at (with_fresh name known) u.base) u ≡ false)) (sym (read_fresh name known counted)) (put_is_there known (fresh_uid name known))

fresh_keeps : (known : List Uid) (name : List ℕ) (x : List ℕ) → IsCovered known x → IsCovered (with_fresh name known) x
fresh_keeps known name x is = put_keeps known (fresh_uid name known) x (fresh_is_later name known) is

fresh_counts : (known : List Uid) (name : List ℕ) → AreCounted known → AreCounted (with_fresh name known)
fresh_counts known name counted = put_counts known (fresh_uid name known) (next_is (base_of name) (known_at known (base_of name)) (counted (base_of name))).some counted

pub answered : (known : List Uid) (taken : List (List ℕ)) (name : List ℕ) → Covers known taken → Covers (with_fresh name known) (fresh_name name known ∷ taken)
answered known taken name is = record {
  covered = All-cons (IsCovered (with_fresh name known)) (fresh_name name known) taken (fresh_covers known name is.counted)
      (All-weaker (IsCovered known) (IsCovered (with_fresh name known)) (fresh_keeps known name) taken is.covered);
  counted = fresh_counts known name is.counted;
}

pub fresh : (known : List Uid) (taken : List (List ℕ)) (name : List ℕ) → Covers known taken → ¬ (Contains taken (fresh_name name known))
fresh known taken name is among =
    let covered : IsCovered known (fresh_name name known) = All-contains (IsCovered known) taken (fresh_name name known) is.covered among in
    let early : is_later_than (known_at known (fresh_uid name known).base) (fresh_uid name known) ≡ false =
    subst (λ o. IfSome o (λ u. is_later_than (known_at known u.base) u ≡ false)) (read_fresh name known is.counted) covered in
    cc (early, fresh_is_later name known)

-- ---- from the start

pub names_append : (xs ys : List (List ℕ)) (known : List Uid) → with_names (xs ++ ys) known ≡ with_names ys (with_names xs known)
names_append [] ys known = refl
names_append (x ∷ xs) ys known = names_append xs ys (with_name x known)

names_keep : (names : List (List ℕ)) (known : List Uid) (x : List ℕ) → IsCovered known x → IsCovered (with_names names known) x
names_keep [] known x is = is
names_keep (name ∷ names) known x is = names_keep names (with_name name known) x (raised_keeps known (uid_of name) x is)

names_counted : (names : List (List ℕ)) (known : List Uid) → AreCounted known → AreCounted (with_names names known)
names_counted [] known counted = counted
names_counted (name ∷ names) known counted = names_counted names (with_name name known) (raised_counts known (uid_of name) (name_counts name) counted)

names_covered : (names : List (List ℕ)) (known : List Uid) → All (IsCovered (with_names names known)) names
names_covered [] known = All-nil (IsCovered known)
names_covered (name ∷ names) known =
    All-cons (IsCovered (with_names names (with_name name known))) name names (names_keep names (with_name name known) name (raised_covers known (uid_of name))) (names_covered names (with_name name known))

pub made : (taken : List (List ℕ)) → Covers (with_names taken []) taken
made taken = record { covered = names_covered taken []; counted = names_counted taken [] (λ base. tt) }

-- ---- over calls

calls_keep : (calls : List Call) (known : List Uid) (x : List ℕ) → IsCovered known x → IsCovered (known_after calls known) x
calls_keep [] known x is = is
calls_keep (add name ∷ calls) known x is = calls_keep calls (with_name name known) x (raised_keeps known (uid_of name) x is)
calls_keep (create name ∷ calls) known x is = calls_keep calls (with_fresh name known) x (fresh_keeps known name x is)

calls_counted : (calls : List Call) (known : List Uid) → AreCounted known → AreCounted (known_after calls known)
calls_counted [] known counted = counted
calls_counted (add name ∷ calls) known counted = calls_counted calls (with_name name known) (raised_counts known (uid_of name) (name_counts name) counted)
calls_counted (create name ∷ calls) known counted = calls_counted calls (with_fresh name known) (fresh_counts known name counted)

calls_covered : (calls : List Call) (known : List Uid) → AreCounted known → All (IsCovered (known_after calls known)) (names_of calls known)
calls_covered [] known counted = All-nil (IsCovered known)
calls_covered (add name ∷ calls) known counted =
    let after = with_name name known in
    All-cons (IsCovered (known_after calls after)) name (names_of calls after) (calls_keep calls after name (raised_covers known (uid_of name)))
    (calls_covered calls after (raised_counts known (uid_of name) (name_counts name) counted))
calls_covered (create name ∷ calls) known counted =
    let after = with_fresh name known in
    All-cons (IsCovered (known_after calls after)) (fresh_name name known) (names_of calls after) (calls_keep calls after (fresh_name name known) (fresh_covers known name counted))
    (calls_covered calls after (fresh_counts known name counted))

pub covers_calls : (known : List Uid) (taken : List (List ℕ)) (calls : List Call) → Covers known taken → Covers (known_after calls known) (taken ++ names_of calls known)
covers_calls known taken calls is = record {
  covered = All-append (IsCovered (known_after calls known)) taken (names_of calls known)
      (All-weaker (IsCovered known) (IsCovered (known_after calls known)) (calls_keep calls known) taken is.covered) (calls_covered calls known is.counted);
  counted = calls_counted calls known is.counted;
}
