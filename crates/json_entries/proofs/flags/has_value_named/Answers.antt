use Rattle.std.proofs.Common.{◌∙◌, sym, arith}
use Rattle.json_entries.proofs.Search.{value_of_first, value_of_rest, no_value}
use Rattle.json_entries.proofs.flags.has_value_named.Goals as goal

pub returns-in-Some : goal.returns-in-Some
returns-in-Some c = c.is_value_named.ensures ∙ sym (value_of_first c.args.name.now c.args.children.now c.loop-child.child-index c.child-item.result c.in-Some.node c.loop-child-test.true c.child-item.is c.in-Some.is c.loop-child.invariant)

pub loop-child-preserved : goal.loop-child-preserved
loop-child-preserved c = value_of_rest c.args.name.now c.args.children.now c.loop-child.child-index c.child-item.result c.loop-child-test.true c.child-item.is c.in_default.is c.loop-child.invariant

pub returns : goal.returns
returns c = sym (no_value c.args.name.now c.args.children.now c.loop-child.child-index (omega (arith, c.loop-child-test.false)) c.loop-child.invariant)
