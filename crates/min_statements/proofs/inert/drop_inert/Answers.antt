use Rattle.std.proofs.Common.{◌∙◌, sym}
use Rattle.js_syntax.specs.Node.{row}
use Rattle.min_statements.proofs.Shed.{asked_still, dropped_leaves}
use Rattle.min_statements.proofs.Emptying.{until_next, until_none}
use Rattle.min_statements.proofs.inert.drop_inert.Goals as goal

pub loop-rest-preserved-then-is_inert : goal.loop-rest-preserved-then-is_inert
loop-rest-preserved-then-is_inert c = record {
  asked = asked_still (dropped_leaves c.loop-rest.invariant.asked c.drop_statement.ensures.dropped) c.loop-rest.invariant.asked;
  left = until_next (row c.args.items.now) c.loop-rest.jumped c.loop-rest.rest.now c.first-item.result c.in-Some.node c.in-len1-up.len_at_least c.first-item.is c.in-Some.is (sym c.if-is_inert.true ∙ c.is_inert.ensures) c.loop-rest.invariant.asked c.drop_statement.ensures.dropped
      c.loop-rest.invariant.left;
}

pub returns : goal.returns
returns c = record { left = until_none (row c.args.items.now) c.loop-rest.jumped c.loop-rest.rest.now c.in_default.len_below c.loop-rest.invariant.left }
