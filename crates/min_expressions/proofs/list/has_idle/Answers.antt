use Rattle.std.proofs.Common.{◌∙◌, sym, arith, refl}
use Rattle.js_tree.proofs.Search.{found_at, rest_of, none_found}
use Rattle.min_expressions.proofs.Lists.{some_idle, idle_each}
use Rattle.min_expressions.proofs.list.has_idle.Goals as goal

pub returns-then-is_idle : goal.returns-then-is_idle
returns-then-is_idle c = sym (found_at some_idle idle_each c.args.parts.now c.loop-part.part-index c.part-item.result c.loop-part-test.true c.part-item.is (sym c.is_idle.ensures ∙ c.if-is_idle.true))

pub loop-part-preserved : goal.loop-part-preserved
loop-part-preserved c = rest_of some_idle idle_each c.args.parts.now c.loop-part.part-index c.part-item.result c.loop-part-test.true c.part-item.is (sym c.is_idle.ensures ∙ c.if-is_idle.false) c.loop-part.invariant

pub returns : goal.returns
returns c = sym (none_found some_idle c.args.parts.now c.loop-part.part-index refl (omega (arith, c.loop-part-test.false)) c.loop-part.invariant)
