use Rattle.std.proofs.Common.{arith}
use Rattle.min_statements.proofs.Naming.{child_told, no_child_told}
use Rattle.min_statements.proofs.left_names.drop_named.Goals as goal

pub returns-then-at-parts : goal.returns-then-at-parts
returns-then-at-parts c = record { left = child_told c.args.parts.now c.args.at c.index-parts-at.result (omega (arith, c.if-at-parts.true)) c.index-parts-at.is c.drop_child.ensures.left }

pub returns-else-at-parts : goal.returns-else-at-parts
returns-else-at-parts c = record { left = no_child_told c.args.ctx.now c.args.parts.now c.args.at (omega (arith, c.if-at-parts.false)) }
