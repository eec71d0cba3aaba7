-- A logical expression of whose left side, which does nothing but give a value, it is known by its form whether the right one is evaluated
-- (ECMA-262 13.13), becomes that side, unless it matters there that this stands there itself; else it becomes the left one.
use Rattle.std.specs.Prelude.{◌≡◌, Bool, true, false, ◌||◌, Option, Some, None, if◌then◌else◌}
use Rattle.js_syntax.specs.declared.node_kind.NodeKind.{NodeKind as Kind}
use Rattle.js_syntax.specs.declared.node_kind.NodeKind.TheVariants.{LogicalExpression as logical_expression}
use Rattle.js_syntax.specs.declared.operator.LogicalOperator.{LogicalOperator}
use Rattle.js_syntax.specs.Node.{Forest, Tree, Note, nothing, node, alone}
use Rattle.js_tree.specs.Walk.{is_list}
use Rattle.known_tests.specs.Tells.{way_known}
use Rattle.scope_laws.specs.Place.{Around}
use Rattle.steps.specs.Allowed.Places.{MayStandBare}
use Rattle.steps.specs.Allowed.UnusedOperation.{acts}

-- whether the right side is evaluated, of a left one that doesn't act and is no list
abbrev pub side_known : LogicalOperator → Kind → Note → (below : Forest) → Option Bool
side_known o k n a = if acts k n a || is_list k then None else way_known o (alone k n a)

abbrev pub a_logical : LogicalOperator → (n : Note) → (k : Kind) (m : Note) (a : Forest) → (right : Forest) → Tree
a_logical o n k m a right = record { kind = logical_expression o; note = n; below = node k m a right }

pub data KnownSide (p : Around) : (x y : Tree) → Type 0 where
  right_side_counts : (o : LogicalOperator) (n m i : Note) (t k : Kind) (a b : Forest) → side_known o t m a ≡ Some true → MayStandBare p k b
      → KnownSide p (a_logical o n t m a (node k i b nothing)) (record { kind = k; note = i; below = b })
  left_side_decides : (o : LogicalOperator) (n m i : Note) (t k : Kind) (a b : Forest) → side_known o t m a ≡ Some false → MayStandBare p t a
      → KnownSide p (a_logical o n t m a (node k i b nothing)) (record { kind = t; note = m; below = a })
