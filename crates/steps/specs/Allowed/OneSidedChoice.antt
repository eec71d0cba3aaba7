-- Of a conditional of which nobody takes the value, and of which one branch alone acts: `test && consequent`, or `test || alternate`
-- (ECMA-262 13.13, 13.14).
use Rattle.std.specs.Prelude.{◌≡◌, true, Option, Some, None, if◌then◌else◌}
use Rattle.js_syntax.specs.declared.node_kind.NodeKind.{NodeKind as Kind}
use Rattle.js_syntax.specs.declared.node_kind.NodeKind.TheVariants.{ConditionalExpression as conditional_expression, LogicalExpression as logical_expression}
use Rattle.js_syntax.specs.declared.operator.LogicalOperator.{LogicalOperator}
use Rattle.js_syntax.specs.declared.operator.LogicalOperator.TheVariants as logical
use Rattle.js_syntax.specs.Node.{Forest, Tree, Note, nothing, node}
use Rattle.scope_laws.specs.Place.{Around}
use Rattle.steps.specs.Allowed.Unused.{is_unused_at}
use Rattle.steps.specs.Allowed.UnusedOperation.{acts}

abbrev pub sides : (n : Note) → LogicalOperator → (left right : Tree) → Tree
sides n o left right = record { kind = logical_expression o; note = n; below = node left.kind left.note left.below (node right.kind right.note right.below nothing) }

-- the branch that acts stays, if the other doesn't
abbrev pub one_side : (n : Note) → (parts : Forest) → Option Tree
one_side n (node k i a (node l j b (node z o c nothing))) =
    if acts l j b
    then (if acts z o c then None else Some (sides n logical.And (record { kind = k; note = i; below = a }) (record { kind = l; note = j; below = b })))
    else (if acts z o c then Some (sides n logical.Or (record { kind = k; note = i; below = a }) (record { kind = z; note = o; below = c })) else None)
one_side n t = None

abbrev pub one_sided : (n : Note) → Kind → (below : Forest) → Option Tree
one_sided n conditional_expression below = one_side n below
one_sided n k below = None

pub data OneSidedChoice (a : Around) : (x y : Tree) → Type 0 where
  one_branch_acts : (n : Note) (x y : Tree) → is_unused_at a ≡ true → one_sided n x.kind x.below ≡ Some y → OneSidedChoice a x y
