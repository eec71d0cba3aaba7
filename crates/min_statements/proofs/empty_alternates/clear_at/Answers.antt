use Rattle.std.proofs.Common.{arith}
use Rattle.min_statements.proofs.Alternates.{cleared, none_cleared}
use Rattle.min_statements.proofs.empty_alternates.clear_at.Goals as goal

pub returns-then-at-parts : goal.returns-then-at-parts
returns-then-at-parts c = cleared c.args.parts.now c.args.at c.clear.new.place (omega (arith, c.if-at-parts.true)) c.clear.ensures

pub returns-else-at-parts : goal.returns-else-at-parts
returns-else-at-parts c = none_cleared c.args.parts.now c.args.at (omega (arith, c.if-at-parts.false))
