-- Statements `if` whose branches are empty.
use Rattle.std.specs.Prelude.{not, ◌&&◌, Option, None}
use Rattle.js_syntax.specs.declared.node_kind.NodeKind.{NodeKind as Kind}
use Rattle.js_syntax.specs.declared.node_kind.NodeKind.TheVariants.{IfStatement as if_statement}
use Rattle.js_syntax.specs.Node.{Forest, Tree, Note, node}
use Rattle.min_traverse.specs.Lawful.{Rule}
use Rattle.steps.specs.Allowed.EmptyIf.{are_empty, begins_no_statement, statement_of}
use Rattle.rules.specs.Expressions.Ifs.{given_if}
use Rattle.rules.specs.Expressions.Lists.{new_note}

-- a statement of the test
abbrev pub test_left : (note : Note) → Kind → (below : Forest) → Option Tree
test_left n if_statement (node t m d branches) = given_if (are_empty branches && not (begins_no_statement t)) (statement_of (new_note n) m t d)
test_left n k below = None

-- ---- as a rule of a walk

abbrev pub fold_empty_if : Rule
fold_empty_if c x = test_left x.note x.kind x.below
