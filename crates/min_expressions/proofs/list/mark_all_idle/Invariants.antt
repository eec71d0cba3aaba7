use Rattle.std.proofs.Common.{take}
use Rattle.js_syntax.specs.Node.{row}
use Rattle.min_expressions.proofs.Lists.{IdleLeaves}
use Rattle.min_expressions.proofs.list.mark_all_idle.Given as goal

abbrev pub invariant-loop-part : goal.invariant-loop-part
invariant-loop-part l = IdleLeaves l.fn.ctx (row (take l.part-index l.parts)) l.ctx
