-- An `if` whose branches are empty becomes a statement of its test (ECMA-262 14.6.2), if that is no function and no class, with which no
-- such statement begins (14.5).
use Rattle.std.specs.Prelude.{◌≡◌, Bool, true, false, ◌&&◌}
use Rattle.js_syntax.specs.declared.node_kind.NodeKind.{NodeKind as Kind}
use Rattle.js_syntax.specs.declared.node_kind.NodeKind.TheVariants.{EmptyStatement as empty_statement, ExpressionStatement as expression_statement, Function as function, Class as class}
use Rattle.js_syntax.specs.Node.{Forest, Tree, Note, nothing, node, absent}
use Rattle.steps.specs.Allowed.Arranged.{is_nothing}
use Rattle.steps.specs.Allowed.KnownIf.{an_if}

abbrev pub is_empty : Kind → (below : Forest) → Bool
is_empty empty_statement below = is_nothing below
is_empty k below = false

-- what stands behind the test: an empty statement, and another or none
abbrev pub are_empty : (branches : Forest) → Bool
are_empty (node k n b (absent nothing)) = is_empty k b
are_empty (node k n b (node l m c nothing)) = is_empty k b && is_empty l c
are_empty branches = false

abbrev pub begins_no_statement : Kind → Bool
begins_no_statement (function how pure) = true
begins_no_statement (class how) = true
begins_no_statement k = false

abbrev pub statement_of : (o m : Note) → Kind → (below : Forest) → Tree
statement_of o m t d = record { kind = expression_statement; note = o; below = node t m d nothing }

pub data EmptyIf : (x y : Tree) → Type 0 where
  test_stays : (n m o : Note) (t : Kind) (d branches : Forest) → are_empty branches ≡ true → begins_no_statement t ≡ false → EmptyIf (an_if n t m d branches) (statement_of o m t d)
