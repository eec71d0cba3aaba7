-- Whether of an `if` its test alone stays.
use Rattle.std.specs.Prelude.{Bool, false, not, ◌&&◌}
use Rattle.js_syntax.specs.declared.node_kind.NodeKind.{NodeKind as Kind}
use Rattle.js_syntax.specs.declared.node_kind.NodeKind.TheVariants.{IfStatement as if_statement}
use Rattle.js_syntax.specs.Node.{Forest, Tree}
use Rattle.steps.specs.Allowed.EmptyIf as empty_if
use Rattle.steps.specs.Allowed.EmptyIf.{begins_no_statement}
use Rattle.min_statements.specs.Ifs.{Branches, both, one, last, others, branches_of}

abbrev pub is_empty : Tree → Bool
is_empty x = empty_if.is_empty x.kind x.below

abbrev pub test_alone : Branches → Bool
test_alone (both t x y) = (is_empty x && is_empty y) && not (begins_no_statement t.kind)
test_alone (one t x) = is_empty x && not (begins_no_statement t.kind)
test_alone (last b f) = false
test_alone others = false

abbrev pub keeps_test : Kind → (parts : Forest) → Bool
keeps_test if_statement parts = test_alone (branches_of parts)
keeps_test k parts = false
