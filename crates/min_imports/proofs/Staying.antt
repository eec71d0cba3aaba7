-- Which items stay, and the list of those.
use Rattle.std.proofs.Common.{◌≡◌, ◌<◌, ◌≤◌, ◌+◌, ◌∙◌, ℕ, List, [], ◌∷◌, ◌++◌, Bool, true, false, not, ◌||◌, Option, Some, None, length, drop, get_or, if◌then◌else◌, append-nil, append_assoc, refl, sym, ap, arith}
use Rattle.std.specs.Bool.{beq}
use Rattle.std.specs.List.{items_where_true, list_any}
use Rattle.std.proofs.lemmas.List.{drop_all}
use Rattle.js_syntax.specs.Node.{Tree, Forest, nothing, node, absent, row}
use Rattle.js_syntax.proofs.Truth.{first_of_neither, second_of_neither}
use Rattle.js_meaning.specs.Module.{requests_of}
use Rattle.js_tree.proofs.Rows.{front_of}
use Rattle.rules.specs.Imports.Repeated.{repeats, has_repeated, each_once}
use Rattle.min_imports.specs.Items.{asked_with, asked_behind, stays}

-- ---- item by item

stays_each : (asked : List (List ℕ)) (x : Option Tree) (ts : List (Option Tree)) → stays asked (row (x ∷ ts)) ≡ stays asked (row (x ∷ [])) ++ stays (asked_behind asked (row (x ∷ []))) (row ts)
stays_each asked None ts = refl
stays_each asked (Some x) ts = refl

pub stays_more : (xs : List (Option Tree)) (i : ℕ) (x : Option Tree) (answer : Bool) (before after whole : List Bool) (asked : List (List ℕ)) → i < length xs → x ≡ get_or xs i x
    → stays asked (row (x ∷ [])) ≡ answer ∷ [] → after ≡ before ++ answer ∷ [] → before ++ stays asked (row (drop i xs)) ≡ whole
    → after ++ stays (asked_behind asked (row (x ∷ []))) (row (drop (i + 1) xs)) ≡ whole
stays_more xs i x answer before after whole asked h is said more so_far =
    let rest = stays (asked_behind asked (row (x ∷ []))) (row (drop (i + 1) xs)) in
    ap (λ l. l ++ rest) more
    ∙ append_assoc before (answer ∷ []) rest
    ∙ ap (λ l. before ++ l) (sym (ap (λ l. stays asked (row l)) (front_of xs i x h is) ∙ stays_each asked x (drop (i + 1) xs) ∙ ap (λ l. l ++ rest) said))
    ∙ so_far

pub stays_all : (xs : List (Option Tree)) (i : ℕ) (before whole : List Bool) (asked : List (List ℕ)) → length xs ≤ i → before ++ stays asked (row (drop i xs)) ≡ whole → before ≡ whole
stays_all xs i before whole asked h so_far = sym (append-nil before) ∙ ap (λ l. before ++ stays asked (row l)) (sym (drop_all i xs h)) ∙ so_far

pub stays_length : (asked : List (List ℕ)) (xs : List (Option Tree)) → length (stays asked (row xs)) ≡ length xs
stays_length asked [] = refl
stays_length asked (None ∷ xs) = Prim.omega (arith, stays_length asked xs)
stays_length asked (Some x ∷ xs) = Prim.omega (arith, stays_length (asked_with asked x.kind x.below) xs)

-- ---- what is left

one_kept : (x : Tree) (goes : Bool) (xs : List (Option Tree)) (asked more : List (List ℕ))
    → ((a : List (List ℕ)) → row (items_where_true (stays a (row xs)) xs) ≡ each_once a (row xs))
    → row (items_where_true (not goes ∷ stays (if goes then asked else more) (row xs)) (Some x ∷ xs)) ≡ (if goes then each_once asked (row xs) else node x.kind x.note x.below (each_once more (row xs)))
one_kept x true xs asked more rest = rest asked
one_kept x false xs asked more rest = ap (λ t. node x.kind x.note x.below t) (rest more)

pub kept_row : (asked : List (List ℕ)) (xs : List (Option Tree)) → row (items_where_true (stays asked (row xs)) xs) ≡ each_once asked (row xs)
kept_row asked [] = refl
kept_row asked (None ∷ xs) = ap (λ t. absent t) (kept_row asked xs)
kept_row asked (Some x ∷ xs) = one_kept x (repeats asked x.kind x.below) xs asked (asked ++ requests_of x.kind) (λ a. kept_row a xs)

stays_here : (goes : Bool) (t u v : Forest) → goes ≡ false → u ≡ v → (if goes then t else u) ≡ v
stays_here true t u v none is = absurd cc
stays_here false t u v none is = is

pub once_same : (asked : List (List ℕ)) (t : Forest) → has_repeated asked t ≡ false → each_once asked t ≡ t
once_same asked nothing none = refl
once_same asked (absent r) none = ap (λ t. absent t) (once_same asked r none)
once_same asked (node k n b r) none =
    stays_here (repeats asked k b) _ _ _ (first_of_neither (repeats asked k b) (has_repeated (asked ++ requests_of k) r) none)
    (ap (λ t. node k n b t) (once_same (asked ++ requests_of k) r (second_of_neither (repeats asked k b) (has_repeated (asked ++ requests_of k) r) none)))

-- the same of a tree
pub tree_same : (x : Tree) → has_repeated [] x.below ≡ false → x ≡ record x { below = each_once [] x.below }
tree_same x none = ap (λ t. record { kind = x.kind; note = x.note; below = t }) (sym (once_same [] x.below none))

pub same_tree : (y : Tree) (x : Tree) (t : Forest) → y.kind ≡ x.kind → y.note ≡ x.note → y.below ≡ t → y ≡ record x { below = t }
same_tree y x t a b c = ap (λ z. record { kind = z; note = y.note; below = y.below }) a ∙ ap (λ z. record { kind = x.kind; note = z; below = y.below }) b ∙ ap (λ z. record { kind = x.kind; note = x.note; below = z }) c

-- ---- whether one goes

one_goes : (goes : Bool) (asked more : List (List ℕ)) (t : Forest) → ((a : List (List ℕ)) → list_any (λ y. beq y false) (stays a t) ≡ has_repeated a t)
    → beq (not goes) false || list_any (λ y. beq y false) (stays (if goes then asked else more) t) ≡ goes || has_repeated more t
one_goes true asked more t rest = refl
one_goes false asked more t rest = rest more

some_goes : (asked : List (List ℕ)) (t : Forest) → list_any (λ y. beq y false) (stays asked t) ≡ has_repeated asked t
some_goes asked nothing = refl
some_goes asked (absent r) = some_goes asked r
some_goes asked (node k n b r) = one_goes (repeats asked k b) asked (asked ++ requests_of k) r (λ a. some_goes a r)

pub some_told : (found : Bool) (l staying : List Bool) (t u : Forest) → found ≡ list_any (λ y. beq y false) l → l ≡ staying → staying ≡ stays [] t → t ≡ u → found ≡ has_repeated [] u
some_told found l staying t u is same told here = is ∙ ap (list_any (λ y. beq y false)) (same ∙ told ∙ ap (stays []) here) ∙ some_goes [] u
