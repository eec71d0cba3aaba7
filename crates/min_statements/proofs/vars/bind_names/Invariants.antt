use Rattle.std.proofs.Common.{◌≡◌, length}
use Rattle.js_syntax.specs.Node.{row}
use Rattle.steps.specs.VarNames.Plain.{bind_names}
use Rattle.min_statements.proofs.vars.bind_names.Given as goal

abbrev pub invariant-loop-rest : goal.invariant-loop-rest
invariant-loop-rest l = bind_names (row l.declarators) ≡ bind_names (row l.rest)

abbrev pub decreases-loop-rest : goal.decreases-loop-rest
decreases-loop-rest l = length l.rest
