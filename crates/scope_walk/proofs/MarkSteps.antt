-- Rows of nodes that are marked one by one.
use Rattle.std.proofs.Common.{◌≡◌, ◌<◌, ◌≤◌, ◌+◌, ◌∙◌, ℕ, suc, List, [], ◌∷◌, Option, Some, None, length, get_or, take, drop, drop-cons, set, add-one, refl, sym, ap, ap₂, arith}
use Rattle.std.proofs.lemmas.List.{take_more_set, take_all, drop-set-lt, drop-drop}
use Rattle.js_syntax.specs.declared.node_kind.NodeKind.{NodeKind as Kind}
use Rattle.js_syntax.specs.Node.{Forest, Tree, Note, nothing, node, absent, row, forest_of, joined, total}
use Rattle.js_tree.proofs.Rows.{joined_nothing, joined_assoc, row_push}
use Rattle.js_tree.proofs.Children.{none_left}
use Rattle.scope_rules.specs.Mark.{Marks, own_binding, behind_node, behind_row, marked}

same : (a b : Marks) → a.scope ≡ b.scope → a.reference ≡ b.reference → a.symbols ≡ b.symbols → a ≡ b
same a b s t u = ap (λ x. record { scope = x; reference = a.reference; symbols = a.symbols }) s ∙ ap (λ x. record { scope = b.scope; reference = x; symbols = a.symbols }) t ∙ ap (λ x. record { scope = b.scope; reference = b.reference; symbols = x }) u

-- behind a node stands what is behind those below it
pub behind_below : (m : Marks) (k : Kind) (n : Note) (below : Forest) → behind_row (behind_node m k below) below ≡ behind_row m (node k n below nothing)
behind_below m k n below =
    same (behind_row (behind_node m k below) below) (behind_row m (node k n below nothing))
    (Prim.omega arith) (Prim.omega arith)
    (drop-drop (total own_binding below) (own_binding k) m.symbols ∙ ap (λ (i : ℕ). drop i m.symbols) (Prim.omega arith))

behind_front : (m : Marks) (k : Kind) (n : Note) (below rest : Forest) → behind_row (behind_row m (node k n below nothing)) rest ≡ behind_row m (node k n below rest)
behind_front m k n below rest =
    same (behind_row (behind_row m (node k n below nothing)) rest) (behind_row m (node k n below rest))
    (Prim.omega arith) (Prim.omega arith)
    (drop-drop (total own_binding rest) (total own_binding (node k n below nothing)) m.symbols ∙ ap (λ (i : ℕ). drop i m.symbols) (Prim.omega arith))

pub behind_none : (m : Marks) → behind_row m nothing ≡ m
behind_none m = same (behind_row m nothing) m (Prim.omega arith) (Prim.omega arith) refl

-- ---- one node more

abbrev pub all_marked : List (Option Tree) → ℕ → Marks → Forest
all_marked ts i m = joined (row (take i ts)) (marked m (row (drop i ts)))

abbrev pub all_behind : List (Option Tree) → ℕ → Marks → Marks
all_behind ts i m = behind_row m (row (drop i ts))

taken : (ts : List (Option Tree)) (i : ℕ) (y : Option Tree) → i < length ts → row (take (i + 1) (set ts i y)) ≡ joined (row (take i ts)) (row (y ∷ []))
taken ts i y h = ap row (take_more_set ts i y h) ∙ row_push (take i ts) y

pub left : (ts : List (Option Tree)) (i : ℕ) (y : Option Tree) → drop (i + 1) (set ts i y) ≡ drop (i + 1) ts
left ts i y = drop-set-lt (i + 1) ts i y (Prim.omega arith)

-- the row behind an item, from what stands at its place
pub front_of : (ts : List (Option Tree)) (i : ℕ) (d x : Option Tree) → i < length ts → get_or ts i d ≡ x → drop i ts ≡ x ∷ drop (i + 1) ts
front_of ts i d x h is = rw add-one (drop-cons ts i d h ∙ ap (λ y. y ∷ drop (suc i) ts) is)

pub next_node : (ts : List (Option Tree)) (i : ℕ) (t u : Tree) (m : Marks) → i < length ts → drop i ts ≡ Some t ∷ drop (i + 1) ts → forest_of u ≡ marked m (forest_of t)
    → all_marked (set ts i (Some u)) (i + 1) (behind_row m (forest_of t)) ≡ all_marked ts i m
next_node ts i t u m h front marks =
    let rest = row (drop (i + 1) ts) in
    ap₂ (λ a b. joined a (marked (behind_row m (forest_of t)) (row b))) (taken ts i (Some u) h) (left ts i (Some u))
    ∙ joined_assoc (row (take i ts)) (forest_of u) (marked (behind_row m (forest_of t)) rest)
    ∙ ap (λ a. joined (row (take i ts)) (joined a (marked (behind_row m (forest_of t)) rest))) marks
    ∙ sym (ap (λ r. joined (row (take i ts)) (marked m (row r))) front)

pub next_behind : (ts : List (Option Tree)) (i : ℕ) (y : Option Tree) (t : Tree) (m : Marks) → drop i ts ≡ Some t ∷ drop (i + 1) ts
    → all_behind (set ts i y) (i + 1) (behind_row m (forest_of t)) ≡ all_behind ts i m
next_behind ts i y t m front =
    ap (λ b. behind_row (behind_row m (forest_of t)) (row b)) (left ts i y)
    ∙ behind_front m t.kind t.note t.below (row (drop (i + 1) ts))
    ∙ sym (ap (λ r. behind_row m (row r)) front)

pub next_absent : (ts : List (Option Tree)) (i : ℕ) (m : Marks) → i < length ts → drop i ts ≡ None ∷ drop (i + 1) ts
    → all_marked (set ts i None) (i + 1) m ≡ all_marked ts i m
next_absent ts i m h front =
    ap₂ (λ a b. joined a (marked m (row b))) (taken ts i None h) (left ts i None)
    ∙ joined_assoc (row (take i ts)) (absent nothing) (marked m (row (drop (i + 1) ts)))
    ∙ sym (ap (λ r. joined (row (take i ts)) (marked m (row r))) front)

pub absent_behind : (ts : List (Option Tree)) (i : ℕ) (m : Marks) → drop i ts ≡ None ∷ drop (i + 1) ts
    → all_behind (set ts i None) (i + 1) m ≡ all_behind ts i m
absent_behind ts i m front = ap (λ b. behind_row m (row b)) (left ts i None) ∙ sym (ap (λ r. behind_row m (row r)) front)

pub all_done : (ts : List (Option Tree)) (i : ℕ) (m : Marks) → length ts ≤ i → all_marked ts i m ≡ row ts
all_done ts i m past = ap₂ (λ a b. joined (row a) (marked m b)) (take_all i ts past) (none_left ts i past) ∙ joined_nothing (row ts)
