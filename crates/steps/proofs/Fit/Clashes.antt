-- What a walk over declarations without clashes holds.
use Rattle.std.proofs.Common.{◌≡◌, ◌∙◌, ◌≤◌, ◌+◌, List, [], ◌∷◌, ◌++◌, Bool, true, false, ◌&&◌, if◌then◌else◌, refl, sym, arith, true≢false}
use Rattle.std.specs.Str.{bytes_eq}
use Rattle.std.proofs.lemmas.Bool.{and_parts, and_from, or_left, or_right}
use Rattle.std.proofs.lemmas.Slice.Eq.{bytes_eq-Decides}
use Rattle.form_rules.specs.declared.sought.Sort.{Sort}
use Rattle.form_rules.specs.declared.sought.Sort.TheVariants.{Lexical as lexical, Variable as variable, CatchParameter as catch_parameter}
use Rattle.form_rules.specs.Scope.{Declared, clashes_with_any, later_behind, clash, variable_of_catch}
use Rattle.js_meaning.specs.Value.{Text}
use Rattle.steps.proofs.Fit.Lists.{not_one, one_here, one_more, at_most_one, named, count, behind_zero}
use Rattle.steps.proofs.KeepForm.Fewer.{left_out}

same_name : (x : Text) (c d : Declared) → bytes_eq c.name x ≡ true → bytes_eq d.name x ≡ true → bytes_eq c.name d.name ≡ true
same_name x c d h g = (bytes_eq-Decides c.name d.name).1 ((bytes_eq-Decides c.name x).0 h ∙ sym ((bytes_eq-Decides d.name x).0 g))

-- Two sorts that clash, the first of them standing first.
module _ (test : Sort → Sort → Bool) (f g : Sort → Bool) (x : Text) (meet : (s t : Sort) → f s ≡ true → g t ≡ true → test s t ≡ true) where
  clash_step : (d c : Declared) (seen : List Declared) (b : Bool) → named f x c ≡ b → 1 ≤ (if b then 1 else 0) + count (named f x) seen → named g x d ≡ true → (1 ≤ count (named f x) seen → clashes_with_any test d seen ≡ true)
      → clashes_with_any test d (c ∷ seen) ≡ true
  clash_step d c seen true h n e ih =
      let of_c = and_parts (bytes_eq c.name x) (f c.sort) h in
      let of_d = and_parts (bytes_eq d.name x) (g d.sort) e in
      or_left (bytes_eq c.name d.name && test c.sort d.sort) (clashes_with_any test d seen) (and_from (bytes_eq c.name d.name) (test c.sort d.sort) (same_name x c d of_c.0 of_d.0) (meet c.sort d.sort of_c.1 of_d.1))
  clash_step d c seen false h n e ih = or_right (bytes_eq c.name d.name && test c.sort d.sort) (clashes_with_any test d seen) (ih (omega (arith, n)))

  clashing : (d : Declared) (seen : List Declared) → 1 ≤ count (named f x) seen → named g x d ≡ true → clashes_with_any test d seen ≡ true
  clashing d [] n e = not_one n
  clashing d (c ∷ seen) n e = clash_step d c seen (named f x c) refl n e (λ m. clashing d seen m e)

  quiet_step : (d : Declared) (seen ds : List Declared) (b : Bool) → named g x d ≡ b → 1 ≤ count (named f x) seen → clashes_with_any test d seen ≡ false → count (named g x) ds ≡ 0 → (if b then 1 else 0) + count (named g x) ds ≡ 0
  quiet_step d seen ds true h n e r = absurd (true≢false (sym (clashing d seen n h) ∙ e))
  quiet_step d seen ds false h n e r = omega (arith, r)

  -- behind one of the first sort none of the second
  pub quiet : (seen ds : List Declared) → 1 ≤ count (named f x) seen → later_behind test seen ds ≡ [] → count (named g x) ds ≡ 0
  quiet seen [] n h = refl
  quiet seen (d ∷ ds) n h =
      let parts = left_out (clashes_with_any test d seen) d (later_behind test (d ∷ seen) ds) h in
      quiet_step d seen ds (named g x d) refl n parts.0 (quiet (d ∷ seen) ds (one_more (named f x d) (count (named f x) seen) n) parts.1)

  first_step : (d : Declared) (seen xs ys : List Declared) (b : Bool) → named f x d ≡ b → 1 ≤ (if b then 1 else 0) + count (named f x) xs → later_behind test (d ∷ seen) (xs ++ ys) ≡ [] → (1 ≤ count (named f x) xs → count (named g x) ys ≡ 0)
      → count (named g x) ys ≡ 0
  first_step d seen xs ys true h n e ih = behind_zero (named g x) xs ys (quiet (d ∷ seen) (xs ++ ys) (one_here (named f x d) (count (named f x) seen) h) e)
  first_step d seen xs ys false h n e ih = ih (omega (arith, n))

  pub behind_first : (seen xs ys : List Declared) → 1 ≤ count (named f x) xs → later_behind test seen (xs ++ ys) ≡ [] → count (named g x) ys ≡ 0
  behind_first seen [] ys n h = not_one n
  behind_first seen (d ∷ xs) ys n h =
      let parts = left_out (clashes_with_any test d seen) d (later_behind test (d ∷ seen) (xs ++ ys)) h in
      first_step d seen xs ys (named f x d) refl n parts.1 (λ m. behind_first (d ∷ seen) xs ys m parts.1)

-- ---- the sorts

abbrev pub is_let : Sort → Bool
is_let lexical = true
is_let s = false

abbrev pub is_var : Sort → Bool
is_var variable = true
is_var s = false

abbrev pub is_parameter : Sort → Bool
is_parameter catch_parameter = true
is_parameter s = false

let_let : (s t : Sort) → is_let s ≡ true → is_let t ≡ true → clash s t ≡ true
let_let lexical lexical h g = refl
let_let lexical t h g = absurd (true≢false (sym g))
let_let s t h g = absurd (true≢false (sym h))

let_var : (s t : Sort) → is_let s ≡ true → is_var t ≡ true → clash s t ≡ true
let_var lexical variable h g = refl
let_var lexical t h g = absurd (true≢false (sym g))
let_var s t h g = absurd (true≢false (sym h))

var_let : (s t : Sort) → is_var s ≡ true → is_let t ≡ true → clash s t ≡ true
var_let variable lexical h g = refl
var_let variable t h g = absurd (true≢false (sym g))
var_let s t h g = absurd (true≢false (sym h))

pub parameter_var : (s t : Sort) → is_parameter s ≡ true → is_var t ≡ true → variable_of_catch s t ≡ true
parameter_var catch_parameter variable h g = refl
parameter_var catch_parameter t h g = absurd (true≢false (sym g))
parameter_var s t h g = absurd (true≢false (sym h))

not_both : (s : Sort) → is_let s ≡ true → is_var s ≡ true → ⊥
not_both lexical h g = true≢false (sym g)
not_both s h g = true≢false (sym h)

-- ---- a lexical name of a scope

module _ (x : Text) where
  once_step : (d : Declared) (seen ds : List Declared) (b : Bool) → named is_let x d ≡ b → later_behind clash (d ∷ seen) ds ≡ [] → count (named is_let x) ds ≤ 1 → (if b then 1 else 0) + count (named is_let x) ds ≤ 1
  once_step d seen ds true h e r = at_most_one true (count (named is_let x) ds) (quiet clash is_let is_let x let_let (d ∷ seen) ds (one_here (named is_let x d) (count (named is_let x) seen) h) e)
  once_step d seen ds false h e r = omega (arith, r)

  -- is declared once
  pub let_once : (seen ds : List Declared) → later_behind clash seen ds ≡ [] → count (named is_let x) ds ≤ 1
  let_once seen [] h = omega arith
  let_once seen (d ∷ ds) h =
      let parts = left_out (clashes_with_any clash d seen) d (later_behind clash (d ∷ seen) ds) h in
      once_step d seen ds (named is_let x d) refl parts.1 (let_once (d ∷ seen) ds parts.1)

  apart_step : (d : Declared) (seen ds : List Declared) (b c : Bool) → named is_let x d ≡ b → named is_var x d ≡ c → later_behind clash (d ∷ seen) ds ≡ []
      → 1 ≤ (if b then 1 else 0) + count (named is_let x) ds → 1 ≤ (if c then 1 else 0) + count (named is_var x) ds → (1 ≤ count (named is_let x) ds → 1 ≤ count (named is_var x) ds → ⊥) → ⊥
  apart_step d seen ds true true h g e l v ih = not_both d.sort (and_parts (bytes_eq d.name x) (is_let d.sort) h).1 (and_parts (bytes_eq d.name x) (is_var d.sort) g).1
  apart_step d seen ds true false h g e l v ih =
      let z = quiet clash is_let is_var x let_var (d ∷ seen) ds (one_here (named is_let x d) (count (named is_let x) seen) h) e in
      omega (arith, z, v)
  apart_step d seen ds false true h g e l v ih =
      let z = quiet clash is_var is_let x var_let (d ∷ seen) ds (one_here (named is_var x d) (count (named is_var x) seen) g) e in
      omega (arith, z, l)
  apart_step d seen ds false false h g e l v ih = ih (omega (arith, l)) (omega (arith, v))

  -- and is no variable
  pub let_apart : (seen ds : List Declared) → later_behind clash seen ds ≡ [] → 1 ≤ count (named is_let x) ds → 1 ≤ count (named is_var x) ds → ⊥
  let_apart seen [] h l v = not_one l
  let_apart seen (d ∷ ds) h l v =
      let parts = left_out (clashes_with_any clash d seen) d (later_behind clash (d ∷ seen) ds) h in
      apart_step d seen ds (named is_let x d) (named is_var x d) refl refl parts.1 l v (let_apart (d ∷ seen) ds parts.1)
