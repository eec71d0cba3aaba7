-- A conditional or a logical expression of which it is known which part counts, in whose place this part doesn't stand itself: it stands
-- behind a zero where it matters there, as in `(0, o.f)()`, which gives its value alone (ECMA-262 13.16.1), and behind the test, or the left
-- side, where that acts, as in `(f(), 1), g()`.
use Rattle.std.specs.Prelude.{◌≡◌, pos, Bool, true, false, Option, Some, None, if◌then◌else◌}
use Rattle.js_syntax.specs.declared.node_kind.NodeKind.{NodeKind as Kind}
use Rattle.js_syntax.specs.declared.node_kind.NodeKind.TheVariants.{ConditionalExpression as conditional_expression, LogicalExpression as logical_expression, SequenceExpression as sequence_expression, Expressions as expressions, Literal as literal}
use Rattle.js_syntax.specs.declared.operator.LogicalOperator.{LogicalOperator}
use Rattle.js_syntax.specs.declared.value.LiteralValue.TheVariants as value
use Rattle.js_syntax.specs.Node.{Forest, Tree, Note, nothing, node, alone, forest_of}
pub use Rattle.known_tests.specs.Tells.{way_known}
use Rattle.min_pass.specs.Around.{outermost as asked_of_program}
use Rattle.scope_laws.specs.Place.{Around}
use Rattle.steps.specs.Allowed.KnownConditional.{truth_known}
use Rattle.steps.specs.Allowed.KnownSide.{side_known}
use Rattle.steps.specs.Allowed.Places.{asked_at}
use Rattle.steps.specs.Allowed.UnusedOperation.{acts}
use Rattle.steps.specs.Allowed.Untaken.{truth_given}
use Rattle.steps.specs.Allowed.Uses.{use_at, matters}

-- of both branches the one that is taken, if it is known which
abbrev pub one_of : (first : Option Bool) → (x y : Tree) → Option Tree
one_of None x y = None
one_of (Some true) x y = Some x
one_of (Some false) x y = Some y

abbrev pub if_so : Option Bool → Tree → Option Tree
if_so (Some true) x = Some x
if_so known x = None

-- the part that counts, if it is known which, but for a left side
abbrev pub part_counts : Kind → (below : Forest) → Option Tree
part_counts conditional_expression (node t m a (node k i b (node l j c nothing))) = one_of (truth_known t m a) (record { kind = k; note = i; below = b }) (record { kind = l; note = j; below = c })
part_counts (logical_expression o) (node t m a (node k i b nothing)) = if_so (side_known o t m a) (record { kind = k; note = i; below = b })
part_counts k below = None

-- (0, part)
abbrev pub behind_zero : (n m i : Note) → (part : Tree) → Tree
behind_zero n m i part = record { kind = sequence_expression; note = n; below = node expressions m (node (literal (value.Number (pos 0))) i nothing (forest_of part)) nothing }

-- ---- behind a test that acts

-- whether a test that acts is true, and whether the right side of a logical expression is evaluated whose left one acts
abbrev pub truth_beside : Kind → Note → (below : Forest) → Option Bool
truth_beside k n a = if acts k n a then truth_given k n a else None

abbrev pub way_beside : LogicalOperator → Kind → Note → (below : Forest) → Option Bool
way_beside o k n a = if acts k n a then way_known o (alone k n a) else None

-- test, part
abbrev pub in_turn : (n m : Note) → (test part : Tree) → Tree
in_turn n m test part = record { kind = sequence_expression; note = n; below = node expressions m (node test.kind test.note test.below (forest_of part)) nothing }

abbrev pub behind : (n m : Note) → (test : Tree) → (part : Option Tree) → Option Tree
behind n m test None = None
behind n m test (Some z) = Some (in_turn n m test z)

-- the test and the part that counts, if it is known which
abbrev pub behind_test : (n m : Note) → Kind → (below : Forest) → Option Tree
behind_test n m conditional_expression (node t o a (node k i b (node l j c nothing))) =
    behind n m (record { kind = t; note = o; below = a }) (one_of (truth_beside t o a) (record { kind = k; note = i; below = b }) (record { kind = l; note = j; below = c }))
behind_test n m (logical_expression q) (node t o a (node k i b nothing)) = behind n m (record { kind = t; note = o; below = a }) (if_so (way_beside q t o a) (record { kind = k; note = i; below = b }))
behind_test n m k below = None

pub data IndirectChoice (a : Around) : (x y : Tree) → Type 0 where
  value_alone_counts : (n m i : Note) (x z : Tree) → part_counts x.kind x.below ≡ Some z → matters (use_at a) (asked_at (asked_of_program true) a).in_with z.kind z.below ≡ true
      → IndirectChoice a x (behind_zero n m i z)
  part_counts_behind_test : (n m : Note) (x y : Tree) → behind_test n m x.kind x.below ≡ Some y → IndirectChoice a x y
