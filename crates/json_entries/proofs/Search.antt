-- What the flags ask of the nodes of a row.
use Rattle.std.proofs.Common.{◌≡◌, ◌<◌, ◌≤◌, ◌+◌, ◌∙◌, ℕ, List, ◌∷◌, Bool, false, ◌||◌, Option, Some, None, length, drop, get_or, refl, sym, ap}
use Rattle.std.proofs.lemmas.List.{drop_all}
use Rattle.js_syntax.specs.declared.node_kind.NodeKind.{NodeKind as Kind}
use Rattle.js_syntax.specs.Node.{Tree, row, forest_of}
use Rattle.js_syntax.specs.Hint.{has, has_value_named}
use Rattle.js_tree.proofs.Rows.{front_of}
use Rattle.js_tree.proofs.Search.{AsksEach}
use Rattle.js_syntax.proofs.Truth.{or_false}

pub has_each : (test : Kind → Bool) → AsksEach (has test)
has_each test None ts = refl
has_each test (Some t) ts = ap (λ (b : Bool). b || has test (row ts)) (sym (or_false (test t.kind)))

-- ---- the value of a property is the first node that is there

pub value_of_first : (s : List ℕ) (xs : List (Option Tree)) (i : ℕ) (x : Option Tree) (t : Tree) → i < length xs → x ≡ get_or xs i x → x ≡ Some t
    → has_value_named s (row xs) ≡ has_value_named s (row (drop i xs)) → has_value_named s (row xs) ≡ has_value_named s (forest_of t)
value_of_first s xs i x t h is here so_far = so_far ∙ ap (λ ys. has_value_named s (row ys)) (front_of xs i x h is) ∙ ap (λ y. has_value_named s (row (y ∷ drop (i + 1) xs))) here

pub value_of_rest : (s : List ℕ) (xs : List (Option Tree)) (i : ℕ) (x : Option Tree) → i < length xs → x ≡ get_or xs i x → x ≡ None
    → has_value_named s (row xs) ≡ has_value_named s (row (drop i xs)) → has_value_named s (row xs) ≡ has_value_named s (row (drop (i + 1) xs))
value_of_rest s xs i x h is here so_far = so_far ∙ ap (λ ys. has_value_named s (row ys)) (front_of xs i x h is) ∙ ap (λ y. has_value_named s (row (y ∷ drop (i + 1) xs))) here

pub no_value : (s : List ℕ) (xs : List (Option Tree)) (i : ℕ) → length xs ≤ i → has_value_named s (row xs) ≡ has_value_named s (row (drop i xs)) → has_value_named s (row xs) ≡ false
no_value s xs i h so_far = so_far ∙ ap (λ ys. has_value_named s (row ys)) (drop_all i xs h)
