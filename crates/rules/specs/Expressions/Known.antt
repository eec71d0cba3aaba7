-- Expressions of which it is known what they decide, and all rules on expressions.
use Rattle.std.specs.Prelude.{Bool, true, false, Option, None, Some}
use Rattle.js_syntax.specs.declared.node_kind.NodeKind.{NodeKind as Kind}
use Rattle.js_syntax.specs.declared.node_kind.NodeKind.TheVariants.{ConditionalExpression as conditional_expression, LogicalExpression as logical_expression}
use Rattle.js_syntax.specs.declared.operator.LogicalOperator.{LogicalOperator}
use Rattle.js_syntax.specs.Node.{Forest, Tree, nothing, node}
use Rattle.steps.specs.Allowed.KnownConditional.{truth_known}
use Rattle.steps.specs.Allowed.KnownSide.{side_known}
use Rattle.min_traverse.specs.Lawful.{Rule, either}
use Rattle.rules.specs.Expressions.Uses.{Spot, spot_of, bare}
use Rattle.rules.specs.Expressions.Unused.{fold_unused}
use Rattle.rules.specs.Expressions.Lists.{fold_unused_list}
use Rattle.rules.specs.Expressions.Indirect.{fold_indirect}
use Rattle.rules.specs.Expressions.OneSided.{fold_one_sided}
use Rattle.rules.specs.Expressions.Sequences.{fold_sequence}
use Rattle.rules.specs.Expressions.TwoSides.{fold_two_sides}
use Rattle.rules.specs.Expressions.Objects.{fold_object}
use Rattle.rules.specs.Expressions.Operations.{fold_known}

-- of both branches the one that is taken, if it is known which
abbrev pub branch_taken : Spot → (truth : Option Bool) → (branches : Forest) → Option Tree
branch_taken s (Some true) (node k i b (node l j c nothing)) = bare s k i b
branch_taken s (Some false) (node k i b (node l j c nothing)) = bare s l j c
branch_taken s truth branches = None

abbrev pub by_condition : Spot → (parts : Forest) → Option Tree
by_condition s (node t m a branches) = branch_taken s (truth_known t m a) branches
by_condition s parts = None

abbrev pub conditional_becomes : Spot → Kind → (parts : Forest) → Option Tree
conditional_becomes s conditional_expression parts = by_condition s parts
conditional_becomes s k parts = None

-- the right side where that is evaluated, else the left one, if it is known
abbrev pub side_taken : Spot → (right : Option Bool) → (x y : Tree) → Option Tree
side_taken s None x y = None
side_taken s (Some true) x y = bare s y.kind y.note y.below
side_taken s (Some false) x y = bare s x.kind x.note x.below

abbrev pub by_left_side : Spot → LogicalOperator → (parts : Forest) → Option Tree
by_left_side s o (node t m a (node k i b nothing)) = side_taken s (side_known o t m a) (record { kind = t; note = m; below = a }) (record { kind = k; note = i; below = b })
by_left_side s o parts = None

abbrev pub logical_becomes : Spot → Kind → (parts : Forest) → Option Tree
logical_becomes s (logical_expression o) parts = by_left_side s o parts
logical_becomes s k parts = None

-- ---- as rules of a walk

abbrev pub fold_conditional : Rule
fold_conditional c x = conditional_becomes (spot_of c.place) x.kind x.below

abbrev pub fold_logical : Rule
fold_logical c x = logical_becomes (spot_of c.place) x.kind x.below

-- what becomes of an expression at its end
abbrev pub at_expression_end : Rule
at_expression_end = either (either (either (either (either (either (either (either (either fold_conditional fold_logical) fold_unused) fold_unused_list) fold_indirect) fold_one_sided) fold_sequence) fold_two_sides) fold_object) fold_known
