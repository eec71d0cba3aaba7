use Rattle.std.proofs.Common.{◌∙◌, sym, arith, refl}
use Rattle.rules.specs.DeadCode.Rules.{one_stays}
use Rattle.js_tree.proofs.Search.{found_at, rest_of, none_found}
use Rattle.min_statements.proofs.Each.{stays_each}
use Rattle.min_statements.proofs.goes.one_stays.Goals as goal

pub returns-then-child_stays : goal.returns-then-child_stays
returns-then-child_stays c = sym (found_at (one_stays c.args.facts.now c.args.at c.args.how) (stays_each c.args.facts.now c.args.at c.args.how) c.args.declarators.now c.loop-child.child-index c.child-item.result c.loop-child-test.true c.child-item.is (sym c.child_stays.ensures ∙ c.if-child_stays.true))

pub loop-child-preserved : goal.loop-child-preserved
loop-child-preserved c =
    rest_of (one_stays c.args.facts.now c.args.at c.args.how) (stays_each c.args.facts.now c.args.at c.args.how) c.args.declarators.now c.loop-child.child-index c.child-item.result c.loop-child-test.true c.child-item.is (sym c.child_stays.ensures ∙ c.if-child_stays.false) c.loop-child.invariant

pub returns : goal.returns
returns c = sym (none_found (one_stays c.args.facts.now c.args.at c.args.how) c.args.declarators.now c.loop-child.child-index refl (omega (arith, c.loop-child-test.false)) c.loop-child.invariant)
