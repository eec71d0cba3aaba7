use Rattle.std.proofs.Common.{◌∙◌, sym, arith, refl}
use Rattle.rules.specs.DeadCode.Rules.{has_dead}
use Rattle.js_tree.proofs.Search.{found_at, rest_of, none_found}
use Rattle.min_statements.proofs.Each.{dead_each}
use Rattle.min_statements.proofs.goes.has_dead.Goals as goal

pub returns-then-child_has_dead : goal.returns-then-child_has_dead
returns-then-child_has_dead c = sym (found_at (has_dead c.args.facts.now c.args.at) (dead_each c.args.facts.now c.args.at) c.args.items.now c.loop-item.item-index c.item-item.result c.loop-item-test.true c.item-item.is (sym c.child_has_dead.ensures ∙ c.if-child_has_dead.true))

pub loop-item-preserved : goal.loop-item-preserved
loop-item-preserved c =
    rest_of (has_dead c.args.facts.now c.args.at) (dead_each c.args.facts.now c.args.at) c.args.items.now c.loop-item.item-index c.item-item.result c.loop-item-test.true c.item-item.is (sym c.child_has_dead.ensures ∙ c.if-child_has_dead.false) c.loop-item.invariant

pub returns : goal.returns
returns c = sym (none_found (has_dead c.args.facts.now c.args.at) c.args.items.now c.loop-item.item-index refl (omega (arith, c.loop-item-test.false)) c.loop-item.invariant)
