-- The levels of a row, child by child.
use Rattle.std.proofs.Common.{◌≡◌, ◌<◌, ◌+◌, ◌∙◌, ℕ, List, Option, Some, None, length, get_or, drop, max, ap, sym, add-one}
use Rattle.js_syntax.specs.Node.{Tree, row}
use Rattle.js_tree.specs.Count.{one_each, lower, levels_at}
use Rattle.js_tree.proofs.Children.{child_at, none_at}

-- what a child adds, where it stands so much lower than its parent's others
abbrev pub child_levels : ℕ → Tree → ℕ
child_levels more t = more + one_each t.kind + levels_at (lower t.kind) 0 t.below

pub levels_child : (more : ℕ → ℕ) (ts : List (Option Tree)) (i : ℕ) (x : Option Tree) (t : Tree) → i < length ts → x ≡ get_or ts i x → x ≡ Some t
    → levels_at more i (row (drop i ts)) ≡ max (child_levels (more i) t) (levels_at more (i + 1) (row (drop (i + 1) ts)))
levels_child more ts i x t within at is =
    ap (levels_at more i) (child_at ts i x t within at is) ∙ ap (λ (j : ℕ). max (child_levels (more i) t) (levels_at more j (row (drop (i + 1) ts)))) (sym (add-one i))

pub levels_none : (more : ℕ → ℕ) (ts : List (Option Tree)) (i : ℕ) (x : Option Tree) → i < length ts → x ≡ get_or ts i x → x ≡ None
    → levels_at more i (row (drop i ts)) ≡ levels_at more (i + 1) (row (drop (i + 1) ts))
levels_none more ts i x within at is =
    ap (levels_at more i) (none_at ts i x within at is) ∙ ap (λ (j : ℕ). levels_at more j (row (drop (i + 1) ts))) (sym (add-one i))
