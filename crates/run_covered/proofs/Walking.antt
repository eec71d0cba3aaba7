-- How the search for the first node goes on behind a node.
use Rattle.std.proofs.Common.{◌≡◌, ◌+◌, ◌∙◌, ℕ, true, false, Some, None, if◌then◌else◌, ap, sym}
use Rattle.js_syntax.specs.declared.node_kind.NodeKind.{NodeKind as Kind}
use Rattle.js_syntax.specs.Facts.{is_core}
use Rattle.js_syntax.specs.Node.{Forest, Note, nothing, node}
use Rattle.js_tree.specs.Count.{one_each, node_count}
use Rattle.run_covered.specs.Covered.{either, first_in}

module _ (p : ℕ) (k : Kind) (n : Note) (a r : Forest) where
  pub goes_down : is_core k ≡ true → first_in p (node k n a r) ≡ either (first_in (p + one_each k) a) (first_in (p + node_count (node k n a nothing)) r)
  goes_down core = ap (λ b. if b then either (first_in (p + one_each k) a) (first_in (p + node_count (node k n a nothing)) r) else Some p) core

  pub stops : is_core k ≡ false → first_in p (node k n a r) ≡ Some p
  stops outside = ap (λ b. if b then either (first_in (p + one_each k) a) (first_in (p + node_count (node k n a nothing)) r) else Some p) outside

  pub goes_on : (q : ℕ) → is_core k ≡ true → first_in (p + one_each k) a ≡ None → q ≡ p + node_count (node k n a nothing) → first_in q r ≡ first_in p (node k n a r)
  goes_on q core none is = ap (λ x. first_in x r) is ∙ sym (goes_down core ∙ ap (λ x. either x (first_in (p + node_count (node k n a nothing)) r)) none)

  pub finds : (f : ℕ) → is_core k ≡ true → first_in (p + one_each k) a ≡ Some f → first_in p (node k n a r) ≡ Some f
  finds f core found = goes_down core ∙ ap (λ x. either x (first_in (p + node_count (node k n a nothing)) r)) found
