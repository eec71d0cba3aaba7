use Rattle.std.proofs.Common.{arith}
use Rattle.min_statements.proofs.Naming.{child_put, no_child_put}
use Rattle.min_statements.proofs.left_names.put_there.Goals as goal

pub returns-then-at-parts : goal.returns-then-at-parts
returns-then-at-parts c = child_put c.args.parts.now c.args.at c.args.branch (omega (arith, c.if-at-parts.true))

pub returns-else-at-parts : goal.returns-else-at-parts
returns-else-at-parts c = no_child_put c.args.parts.now c.args.at c.args.branch (omega (arith, c.if-at-parts.false))
