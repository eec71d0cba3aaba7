use Rattle.std.proofs.Common.{arith}
use Rattle.min_statements.proofs.Thinning.{child_rid, no_child_rid}
use Rattle.min_statements.proofs.untaken.rid_among.Goals as goal

pub returns-then-at-parts : goal.returns-then-at-parts
returns-then-at-parts c = child_rid c.args.parts.now c.args.at c.index-parts-at.result c.rid_child.new.child (omega (arith, c.if-at-parts.true)) c.rid_child.ensures

pub returns-else-at-parts : goal.returns-else-at-parts
returns-else-at-parts c = no_child_rid c.args.parts.now c.args.at (omega (arith, c.if-at-parts.false))
