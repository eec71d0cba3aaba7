use Rattle.std.proofs.Common.{arith}
use Rattle.js_syntax.specs.Node.{row}
use Rattle.min_statements.proofs.Shed.{asked_still}
use Rattle.min_statements.proofs.Naming.{until_next, until_none}
use Rattle.min_statements.proofs.Thinning.{rest_sized}
use Rattle.min_statements.proofs.left_names.+drops.Goals as goal

pub drop_row-loop-rest-preserved-in-Some : goal.drop_row-loop-rest-preserved-in-Some
drop_row-loop-rest-preserved-in-Some t c = record {
  asked = asked_still c.drop_item.ensures.left c.loop-rest.invariant.asked;
  left = until_next c.args.listed (row c.args.children.now) c.loop-rest.rest.now c.first-item.result c.in-Some.node c.in-len1-up.len_at_least c.first-item.is c.in-Some.is c.drop_item.ensures.left c.loop-rest.invariant.left;
  small = omega (arith, rest_sized c.loop-rest.rest.now c.in-len1-up.len_at_least, c.loop-rest.invariant.small);
}

pub drop_row-returns : goal.drop_row-returns
drop_row-returns t c = record { left = until_none c.args.listed (row c.args.children.now) c.loop-rest.rest.now c.in_default.len_below c.loop-rest.invariant.left }
