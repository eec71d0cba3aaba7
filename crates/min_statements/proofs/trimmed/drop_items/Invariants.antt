use Rattle.std.proofs.Common.{take}
use Rattle.js_syntax.specs.Node.{row}
use Rattle.min_statements.specs.Shed.{shed}
use Rattle.min_statements.proofs.Shed.{LeavesBy}
use Rattle.min_statements.proofs.trimmed.drop_items.Given as goal

abbrev pub invariant-loop-item : goal.invariant-loop-item
invariant-loop-item l = LeavesBy (λ m f t. shed m f l.at t) l.names l.fn.ctx (row (take l.item-index l.items)) l.ctx
