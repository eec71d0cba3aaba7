-- How often names stand in lists.
use Rattle.std.proofs.Common.{◌≡◌, ◌≤◌, ℕ, ◌+◌, List, [], ◌∷◌, ◌++◌, Bool, true, false, ◌&&◌, ◌||◌, if◌then◌else◌, refl, sym, ap, subst, arith, true≢false}
use Rattle.std.specs.Str.{bytes_eq}
use Rattle.std.proofs.lemmas.Slice.Eq.{bytes_eq-Decides}
use Rattle.form_rules.specs.declared.sought.Sort.{Sort}
use Rattle.form_rules.specs.Scope.{Declared}
use Rattle.js_meaning.specs.Value.{Text}
use Rattle.js_meaning.specs.Scope.{Way, Decl, decl, all_so, or_default, default_name}
use Rattle.js_meaning.specs.Module.{names_in}
use Rattle.steps.specs.Names.{is_among}
use Rattle.steps.specs.Naming.Placed as placed
use Rattle.steps.specs.Fit.Clear.{times}
use Rattle.steps.specs.Fit.Hoisted as hoisted

-- ---- tests that count

pub no_less : (n : ℕ) → 0 ≤ n
no_less n = omega arith

pub not_one : {X : Type 0} → 1 ≤ 0 → X
not_one h = absurd (omega (arith, h))

pub less_by : (m n k : ℕ) → m ≡ n → n ≤ k → m ≤ k
less_by m n k e h = omega (arith, e, h)

pub one_here : (b : Bool) (n : ℕ) → b ≡ true → 1 ≤ (if b then 1 else 0) + n
one_here true n h = omega arith
one_here false n h = absurd (true≢false (sym h))

pub one_more : (b : Bool) (n : ℕ) → 1 ≤ n → 1 ≤ (if b then 1 else 0) + n
one_more true n h = omega arith
one_more false n h = omega (arith, h)

pub at_most_one : (b : Bool) (n : ℕ) → n ≡ 0 → (if b then 1 else 0) + n ≤ 1
at_most_one true n h = omega (arith, h)
at_most_one false n h = omega (arith, h)

-- what is so counts, and so it does where more is asked that holds
pub counts : (b c : Bool) (m n : ℕ) → c ≡ true → m ≡ 0 → (if b then 1 else 0) + m ≤ (if b && c then 1 else 0) + n
counts true true m n h e = omega (arith, e)
counts true false m n h e = absurd (true≢false (sym h))
counts false c m n h e = omega (arith, e)

-- ---- names

abbrev pub occurs : Text → List Text → ℕ
occurs x [] = 0
occurs x (y ∷ ys) = (if bytes_eq y x then 1 else 0) + occurs x ys

pub occurs_joined : (x : Text) (xs ys : List Text) → occurs x (xs ++ ys) ≡ occurs x xs + occurs x ys
occurs_joined x [] ys = omega arith
occurs_joined x (y ∷ xs) ys = let h = occurs_joined x xs ys in omega (arith, h)

pub times_joined : (x : Text) (ds es : List Decl) → times x (ds ++ es) ≡ times x ds + times x es
times_joined x [] es = omega arith
times_joined x (decl y way ∷ ds) es = let h = times_joined x ds es in omega (arith, h)

pub times_so : (x : Text) (way : Way) (xs : List Text) → times x (all_so way xs) ≡ occurs x xs
times_so x way [] = refl
times_so x way (y ∷ xs) = ap (λ n. (if bytes_eq y x then 1 else 0) + n) (times_so x way xs)

among_step : (b c : Bool) (n : ℕ) → (b || c) ≡ true → (c ≡ true → 1 ≤ n) → 1 ≤ (if b then 1 else 0) + n
among_step true c n h g = omega arith
among_step false c n h g = let e = g h in omega (arith, e)

pub among_occurs : (x : Text) (xs : List Text) → is_among xs x ≡ true → 1 ≤ occurs x xs
among_occurs x [] h = absurd (true≢false (sym h))
among_occurs x (y ∷ xs) h = among_step (bytes_eq y x) (is_among xs x) (occurs x xs) h (among_occurs x xs)

pub among_times : (x : Text) (ds : List Decl) → is_among (names_in ds) x ≡ true → 1 ≤ times x ds
among_times x [] h = absurd (true≢false (sym h))
among_times x (decl y way ∷ ds) h = among_step (bytes_eq y x) (is_among (names_in ds) x) (times x ds) h (among_times x ds)

pub no_variables : (x : Text) (xs : List Text) → hoisted.is_none xs ≡ true → occurs x xs ≡ 0
no_variables x [] h = refl
no_variables x (y ∷ xs) h = absurd (true≢false (sym h))

pub no_bound : (x : Text) (xs : List Text) → placed.is_none xs ≡ true → occurs x xs ≡ 0
no_bound x [] h = refl
no_bound x (y ∷ xs) h = absurd (true≢false (sym h))

pub times_default : (x : Text) (ds : List Decl) → bytes_eq default_name x ≡ false → times x (or_default ds) ≡ times x ds
times_default x [] h = ap (λ b. (if b then 1 else 0) + 0) h
times_default x (d ∷ ds) h = refl

-- a name that equals one of a list is that one
pub is_same : (P : Text → Type 0) (y x : Text) → bytes_eq y x ≡ true → P y → P x
is_same P y x e p = subst P ((bytes_eq-Decides y x).0 e) p

-- ---- entries of a walk over declarations

abbrev pub named : (Sort → Bool) → Text → Declared → Bool
named test x d = bytes_eq d.name x && test d.sort

abbrev pub count : (Declared → Bool) → List Declared → ℕ
count f [] = 0
count f (d ∷ ds) = (if f d then 1 else 0) + count f ds

pub count_joined : (f : Declared → Bool) (ds es : List Declared) → count f (ds ++ es) ≡ count f ds + count f es
count_joined f [] es = omega arith
count_joined f (d ∷ ds) es = let h = count_joined f ds es in omega (arith, h)

pub behind_zero : (f : Declared → Bool) (ds es : List Declared) → count f (ds ++ es) ≡ 0 → count f es ≡ 0
behind_zero f ds es h = let e = count_joined f ds es in omega (arith, e, h)

-- a node and what stands behind it
pub both_occur : (f : Declared → Bool) (x : Text) (xs ys : List Text) (here ds es : List Declared) → occurs x xs ≤ count f ds → occurs x ys ≤ count f es → occurs x (xs ++ ys) ≤ count f ((here ++ ds) ++ es)
both_occur f x xs ys here ds es h g =
    let a = occurs_joined x xs ys in
    let b = count_joined f (here ++ ds) es in
    let c = count_joined f here ds in
    omega (arith, a, b, c, h, g)

pub both_times : (f : Declared → Bool) (x : Text) (ns ms : List Decl) (here ds es : List Declared) → times x ns ≤ count f ds → times x ms ≤ count f es → times x (ns ++ ms) ≤ count f ((here ++ ds) ++ es)
both_times f x ns ms here ds es h g =
    let a = times_joined x ns ms in
    let b = count_joined f (here ++ ds) es in
    let c = count_joined f here ds in
    omega (arith, a, b, c, h, g)
