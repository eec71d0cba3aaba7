use Rattle.std.proofs.Common.{◌≡◌, length}
use Rattle.js_syntax.specs.Node.{row}
use Rattle.form_declared.specs.Part.{part_test, has_part}
use Rattle.form_declared.proofs.row.has_part.Given as goal

abbrev pub invariant-loop-rest : goal.invariant-loop-rest
invariant-loop-rest l = has_part (part_test l.part) (row l.rest) ≡ has_part (part_test l.part) (row l.nodes)

abbrev pub decreases-loop-rest : goal.decreases-loop-rest
decreases-loop-rest l = length l.rest
