use Rattle.std.proofs.Common.{◌∙◌, sym, arith, refl}
use Rattle.js_tree.proofs.Search.{found_at, rest_of, none_found}
use Rattle.min_expressions.proofs.Lists.{has_acting_spread, acting_spread_each}
use Rattle.min_expressions.proofs.list.has_acting_spread.Goals as goal

pub returns-then-is_acting_spread : goal.returns-then-is_acting_spread
returns-then-is_acting_spread c = record { spread = sym (found_at has_acting_spread acting_spread_each c.args.parts.now c.loop-part.part-index c.part-item.result c.loop-part-test.true c.part-item.is (sym c.is_acting_spread.ensures ∙ c.if-is_acting_spread.true)) }

pub loop-part-preserved : goal.loop-part-preserved
loop-part-preserved c = rest_of has_acting_spread acting_spread_each c.args.parts.now c.loop-part.part-index c.part-item.result c.loop-part-test.true c.part-item.is (sym c.is_acting_spread.ensures ∙ c.if-is_acting_spread.false) c.loop-part.invariant

pub returns : goal.returns
returns c = record { spread = sym (none_found has_acting_spread c.args.parts.now c.loop-part.part-index refl (omega (arith, c.loop-part-test.false)) c.loop-part.invariant) }
