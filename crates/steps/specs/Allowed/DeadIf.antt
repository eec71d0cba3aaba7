-- An `if` on a test that does nothing but give a value, of which it is known by its form that it is false, becomes empty where it has no
-- other branch and this one declares no name around it (ECMA-262 14.6).
use Rattle.std.specs.Prelude.{◌≡◌, true, false, Some}
use Rattle.js_syntax.specs.declared.node_kind.NodeKind.{NodeKind as Kind}
use Rattle.js_syntax.specs.declared.node_kind.NodeKind.TheVariants.{EmptyStatement as empty_statement}
use Rattle.js_syntax.specs.Node.{Forest, Tree, Note, nothing, node, absent}
use Rattle.steps.specs.Allowed.Branches.{declares_none}
use Rattle.steps.specs.Allowed.KnownConditional.{truth_known}
use Rattle.steps.specs.Allowed.KnownIf.{an_if}

pub data DeadIf : (x y : Tree) → Type 0 where
  nothing_is_run : (n m i o : Note) (t k : Kind) (a b : Forest) → truth_known t m a ≡ Some false → declares_none (node k i b nothing) ≡ true
      → DeadIf (an_if n t m a (node k i b (absent nothing))) (record { kind = empty_statement; note = o; below = nothing })
