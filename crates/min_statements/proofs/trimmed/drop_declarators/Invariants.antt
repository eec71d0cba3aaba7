use Rattle.std.proofs.Common.{take}
use Rattle.js_syntax.specs.Node.{row}
use Rattle.min_statements.specs.Shed.{declarators_shed}
use Rattle.min_statements.proofs.Shed.{LeavesBy}
use Rattle.min_statements.proofs.trimmed.drop_declarators.Given as goal

abbrev pub invariant-loop-declarator : goal.invariant-loop-declarator
invariant-loop-declarator l = LeavesBy (λ m f t. declarators_shed m f l.at l.how t) l.names l.fn.ctx (row (take l.declarator-index l.declarators)) l.ctx
