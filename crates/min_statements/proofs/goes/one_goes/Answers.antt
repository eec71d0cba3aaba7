use Rattle.std.proofs.Common.{◌∙◌, sym, arith, refl}
use Rattle.rules.specs.DeadCode.Rules.{one_goes}
use Rattle.js_tree.proofs.Search.{found_at, rest_of, none_found}
use Rattle.min_statements.proofs.Each.{goes_each}
use Rattle.min_statements.proofs.goes.one_goes.Goals as goal

pub returns-then-child_goes : goal.returns-then-child_goes
returns-then-child_goes c = sym (found_at (one_goes c.args.facts.now c.args.at c.args.how) (goes_each c.args.facts.now c.args.at c.args.how) c.args.declarators.now c.loop-child.child-index c.child-item.result c.loop-child-test.true c.child-item.is (sym c.child_goes.ensures ∙ c.if-child_goes.true))

pub loop-child-preserved : goal.loop-child-preserved
loop-child-preserved c =
    rest_of (one_goes c.args.facts.now c.args.at c.args.how) (goes_each c.args.facts.now c.args.at c.args.how) c.args.declarators.now c.loop-child.child-index c.child-item.result c.loop-child-test.true c.child-item.is (sym c.child_goes.ensures ∙ c.if-child_goes.false) c.loop-child.invariant

pub returns : goal.returns
returns c = sym (none_found (one_goes c.args.facts.now c.args.at c.args.how) c.args.declarators.now c.loop-child.child-index refl (omega (arith, c.loop-child-test.false)) c.loop-child.invariant)
