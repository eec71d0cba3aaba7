use Rattle.std.proofs.Common.{take}
use Rattle.js_syntax.specs.Node.{row}
use Rattle.min_expressions.proofs.Sequences.{FrontLeaves}
use Rattle.min_expressions.proofs.sequence.mark_leaving.Given as goal

abbrev pub invariant-loop-part : goal.invariant-loop-part
invariant-loop-part l = FrontLeaves l.fn.ctx (row (take l.part-index l.parts)) l.ctx
