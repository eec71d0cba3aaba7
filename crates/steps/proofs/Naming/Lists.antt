-- Names in lists, and choices by a place.
use Rattle.std.proofs.Common.{◌≡◌, ◌∙◌, ◌≤◌, ℕ, List, [], ◌∷◌, ◌++◌, Bool, true, false, ◌==◌, if◌then◌else◌, refl, ap, arith, eqb-true}
use Rattle.std.proofs.lemmas.Bool.{or_left, or_right, false_from_ne_true}
use Rattle.js_meaning.specs.Value.{Text}
use Rattle.js_meaning.specs.Scope.{Way, Decl, decl, all_so}
use Rattle.js_meaning.specs.Module.{names_in}
use Rattle.steps.specs.Names.{is_among}
use Rattle.steps.proofs.Among.{among_joined}

pub in_left : (xs ys : List Text) (x : Text) → is_among xs x ≡ true → is_among (xs ++ ys) x ≡ true
in_left xs ys x e = among_joined xs ys x ∙ or_left (is_among xs x) (is_among ys x) e

pub in_right : (xs ys : List Text) (x : Text) → is_among ys x ≡ true → is_among (xs ++ ys) x ≡ true
in_right xs ys x e = among_joined xs ys x ∙ or_right (is_among xs x) (is_among ys x) e

pub names_joined : (ds es : List Decl) → names_in (ds ++ es) ≡ names_in ds ++ names_in es
names_joined [] es = refl
names_joined (decl x way ∷ ds) es = ap (λ xs. x ∷ xs) (names_joined ds es)

pub declared_left : (ds es : List Decl) (x : Text) → is_among (names_in ds) x ≡ true → is_among (names_in (ds ++ es)) x ≡ true
declared_left ds es x e = ap (λ xs. is_among xs x) (names_joined ds es) ∙ in_left (names_in ds) (names_in es) x e

pub declared_right : (ds es : List Decl) (x : Text) → is_among (names_in es) x ≡ true → is_among (names_in (ds ++ es)) x ≡ true
declared_right ds es x e = ap (λ xs. is_among xs x) (names_joined ds es) ∙ in_right (names_in ds) (names_in es) x e

pub names_so : (way : Way) (xs : List Text) → names_in (all_so way xs) ≡ xs
names_so way [] = refl
names_so way (x ∷ xs) = ap (λ ys. x ∷ ys) (names_so way xs)

pub declared_so : (way : Way) (xs : List Text) (x : Text) → is_among xs x ≡ true → is_among (names_in (all_so way xs)) x ≡ true
declared_so way xs x e = ap (λ ys. is_among ys x) (names_so way xs) ∙ e

-- the third and those behind it; those behind the first
unequal : (i j : ℕ) → (i ≡ j → ⊥) → (i == j) ≡ false
unequal i j h = false_from_ne_true (i == j) (λ e. h (eqb-true i j e))

pub third : {X : Type 0} (i : ℕ) (x y z : X) → 2 ≤ i → (if i == 0 then x else if i == 1 then y else z) ≡ z
third i x y z h =
    ap (λ b. if b then x else if i == 1 then y else z) (unequal i 0 (λ (e : i ≡ 0). Prim.omega (arith, e, h)))
    ∙ ap (λ b. if b then y else z) (unequal i 1 (λ (e : i ≡ 1). Prim.omega (arith, e, h)))

pub not_second : {X : Type 0} (i : ℕ) (x y : X) → 2 ≤ i → (if i == 1 then x else y) ≡ y
not_second i x y h = ap (λ b. if b then x else y) (unequal i 1 (λ (e : i ≡ 1). Prim.omega (arith, e, h)))

pub not_first : {X : Type 0} (i : ℕ) (x y : X) → 1 ≤ i → (if i == 0 then x else y) ≡ y
not_first i x y h = ap (λ b. if b then x else y) (unequal i 0 (λ (e : i ≡ 0). Prim.omega (arith, e, h)))

pub either : {X : Type 0} (P : X → Type 0) (b : Bool) (x y : X) → P x → P y → P (if b then x else y)
either P true x y p q = p
either P false x y p q = q
