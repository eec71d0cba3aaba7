-- Lists of which another has some items, in their order: no two of them clash if none of all clash.
use Rattle.std.proofs.Common.{◌≡◌, ℕ, List, [], ◌∷◌, ◌++◌, Bool, true, false, ◌&&◌, ◌||◌, if◌then◌else◌, refl}
use Rattle.std.specs.Str.{bytes_eq}
use Rattle.form_rules.specs.declared.sought.Sort.{Sort}
use Rattle.form_rules.specs.Scope.{Declared, clashes_with_any, later_behind}
use Rattle.form_rules.specs.Rules.{Private, same_private, is_repeated, repeated_privates, Exported, is_exported, repeated_exports}
use Rattle.js_syntax.proofs.Truth.{neither}

pub data Fewer (A : Type 0) (Same : A → A → Type 0) : (xs ys : List A) → Type 0 where
  none : Fewer A Same [] []
  both : {x y : A} {xs ys : List A} → Same x y → Fewer A Same xs ys → Fewer A Same (x ∷ xs) (y ∷ ys)
  more : {y : A} {xs ys : List A} → Fewer A Same xs ys → Fewer A Same xs (y ∷ ys)

module _ {A : Type 0} {Same : A → A → Type 0} where
  pub fewest : (ys : List A) → Fewer A Same [] ys
  fewest [] = none
  fewest (y ∷ ys) = more (fewest ys)

  pub behind_all : {xs ys : List A} (zs : List A) → Fewer A Same xs ys → Fewer A Same xs (zs ++ ys)
  behind_all [] f = f
  behind_all (z ∷ zs) f = more (behind_all zs f)

  pub beside : {xs ys us vs : List A} → Fewer A Same xs ys → Fewer A Same us vs → Fewer A Same (xs ++ us) (ys ++ vs)
  beside none g = g
  beside (both s f) g = both s (beside f g)
  beside (more f) g = more (beside f g)

-- ---- tests of lists

pub or_none : (a b : Bool) → (a || b) ≡ false → (a ≡ false) × (b ≡ false)
or_none true b h = absurd cc
or_none false b h = (refl, h)

pub left_out : {A : Type 0} (b : Bool) (x : A) (xs : List A) → (if b then x ∷ xs else xs) ≡ [] → (b ≡ false) × (xs ≡ [])
left_out true x xs h = absurd cc
left_out false x xs h = (refl, h)

pub leave_out : {A : Type 0} (b : Bool) (x : A) (xs : List A) → b ≡ false → xs ≡ [] → (if b then x ∷ xs else xs) ≡ []
leave_out true x xs h g = absurd cc
leave_out false x xs h g = g

-- ---- names that are declared

abbrev pub SameName : Declared → Declared → Type 0
SameName d e = (d.name ≡ e.name) × (d.sort ≡ e.sort)

clash_free : (clash : Sort → Sort → Bool) (d e : Declared) {xs ys : List Declared} → SameName d e → Fewer Declared SameName xs ys → clashes_with_any clash e ys ≡ false → clashes_with_any clash d xs ≡ false
clash_free clash d e s none h = refl
clash_free clash d e s (both {x = x} {y = y} {ys = ys} t f) h =
    let parts = or_none (bytes_eq y.name e.name && clash y.sort e.sort) (clashes_with_any clash e ys) h in
    neither _ _ (rw (t.0, t.1, s.0, s.1) parts.0) (clash_free clash d e s f parts.1)
clash_free clash d e s (more {y = y} {ys = ys} f) h = clash_free clash d e s f (or_none (bytes_eq y.name e.name && clash y.sort e.sort) (clashes_with_any clash e ys) h).1

pub none_later : (clash : Sort → Sort → Bool) {seen before xs ys : List Declared} → Fewer Declared SameName seen before → Fewer Declared SameName xs ys → later_behind clash before ys ≡ [] → later_behind clash seen xs ≡ []
none_later clash f none h = refl
none_later clash {before = before} f (both {x = x} {y = y} {ys = ys} s g) h =
    let parts = left_out (clashes_with_any clash y before) y (later_behind clash (y ∷ before) ys) h in
    leave_out _ _ _ (clash_free clash x y s f parts.0) (none_later clash (both s f) g parts.1)
none_later clash {before = before} f (more {y = y} {ys = ys} g) h = none_later clash (more f) g (left_out (clashes_with_any clash y before) y (later_behind clash (y ∷ before) ys) h).1

-- ---- private names

abbrev pub SamePrivate : Private → Private → Type 0
SamePrivate p q = (p.name ≡ q.name) × (p.half ≡ q.half) × (p.is_static ≡ q.is_static)

repeats_none : (p q : Private) {xs ys : List Private} → SamePrivate p q → Fewer Private SamePrivate xs ys → is_repeated q ys ≡ false → is_repeated p xs ≡ false
repeats_none p q s none h = refl
repeats_none p q s (both {x = x} {y = y} {ys = ys} t f) h =
    let parts = or_none (same_private y q) (is_repeated q ys) h in
    neither _ _ (rw (t.0, t.1, t.2, s.0, s.1, s.2) parts.0) (repeats_none p q s f parts.1)
repeats_none p q s (more {y = y} {ys = ys} f) h = repeats_none p q s f (or_none (same_private y q) (is_repeated q ys) h).1

pub none_repeated : {seen before xs ys : List Private} → Fewer Private SamePrivate seen before → Fewer Private SamePrivate xs ys → repeated_privates before ys ≡ [] → repeated_privates seen xs ≡ []
none_repeated f none h = refl
none_repeated {before = before} f (both {x = x} {y = y} {ys = ys} s g) h =
    let parts = left_out (is_repeated y before) y.place (repeated_privates (y ∷ before) ys) h in
    leave_out _ _ _ (repeats_none x y s f parts.0) (none_repeated (both s f) g parts.1)
none_repeated {before = before} f (more {y = y} {ys = ys} g) h = none_repeated (more f) g (left_out (is_repeated y before) y.place (repeated_privates (y ∷ before) ys) h).1

-- ---- names that are exported

abbrev pub SameExport : Exported → Exported → Type 0
SameExport d e = d.name ≡ e.name

exported_none : (x y : List ℕ) {xs ys : List Exported} → x ≡ y → Fewer Exported SameExport xs ys → is_exported y ys ≡ false → is_exported x xs ≡ false
exported_none x y s none h = refl
exported_none x y s (both {x = d} {y = e} {ys = ys} t f) h =
    let parts = or_none (bytes_eq e.name y) (is_exported y ys) h in
    neither _ _ (rw (t, s) parts.0) (exported_none x y s f parts.1)
exported_none x y s (more {y = e} {ys = ys} f) h = exported_none x y s f (or_none (bytes_eq e.name y) (is_exported y ys) h).1

pub none_exported_twice : {seen before xs ys : List Exported} → Fewer Exported SameExport seen before → Fewer Exported SameExport xs ys → repeated_exports before ys ≡ [] → repeated_exports seen xs ≡ []
none_exported_twice f none h = refl
none_exported_twice {before = before} f (both {x = x} {y = y} {ys = ys} s g) h =
    let parts = left_out (is_exported y.name before) y.place (repeated_exports (y ∷ before) ys) h in
    leave_out _ _ _ (exported_none x.name y.name s f parts.0) (none_exported_twice (both s f) g parts.1)
none_exported_twice {before = before} f (more {y = y} {ys = ys} g) h = none_exported_twice (more f) g (left_out (is_exported y.name before) y.place (repeated_exports (y ∷ before) ys) h).1
