-- An `if` on a test that does nothing but give a value, of which it is known by its form whether it is true, becomes the branch that is
-- taken, where the other declares no name around it (ECMA-262 14.6).
use Rattle.std.specs.Prelude.{◌≡◌, true, false, Some}
use Rattle.js_syntax.specs.declared.node_kind.NodeKind.{NodeKind as Kind}
use Rattle.js_syntax.specs.declared.node_kind.NodeKind.TheVariants.{IfStatement as if_statement}
use Rattle.js_syntax.specs.Node.{Forest, Tree, Note, nothing, node}
use Rattle.js_meaning_near.specs.Local.{IsField}
use Rattle.steps.specs.Allowed.Branches.{is_branch, declares_none}
use Rattle.steps.specs.Allowed.KnownConditional.{truth_known}

abbrev pub an_if : (n : Note) → (k : Kind) (m : Note) (a : Forest) → (branches : Forest) → Tree
an_if n k m a branches = record { kind = if_statement; note = n; below = node k m a branches }

pub data KnownIf : (x y : Tree) → Type 0 where
  consequent_is_run : (n m i : Note) (t k : Kind) (a b alternate : Forest) → truth_known t m a ≡ Some true → is_branch k ≡ true → IsField alternate → declares_none alternate ≡ true
      → KnownIf (an_if n t m a (node k i b alternate)) (record { kind = k; note = i; below = b })
  alternate_is_run : (n m i j : Note) (t k l : Kind) (a b c : Forest) → truth_known t m a ≡ Some false → is_branch l ≡ true → declares_none (node k i b nothing) ≡ true
      → KnownIf (an_if n t m a (node k i b (node l j c nothing))) (record { kind = l; note = j; below = c })
