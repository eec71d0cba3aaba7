use Rattle.std.proofs.Common.{◌∙◌, sym, arith, refl}
use Rattle.js_syntax.specs.Node.{row}
use Rattle.js_tree.proofs.Search.{found_at, rest_of, none_found}
use Rattle.steps.specs.Allowed.UnusedObject.{all_come_apart}
use Rattle.min_expressions.proofs.Objects.{some_other, other_each, is_false, is_true}
use Rattle.min_expressions.proofs.object.all_come_apart.Goals as goal

pub returns-then-is_other : goal.returns-then-is_other
returns-then-is_other c = is_false (all_come_apart (row c.args.properties.now)) (found_at some_other other_each c.args.properties.now c.loop-property.property-index c.property-item.result c.loop-property-test.true c.property-item.is (sym c.is_other.ensures ∙ c.if-is_other.true))

pub loop-property-preserved : goal.loop-property-preserved
loop-property-preserved c = rest_of some_other other_each c.args.properties.now c.loop-property.property-index c.property-item.result c.loop-property-test.true c.property-item.is (sym c.is_other.ensures ∙ c.if-is_other.false) c.loop-property.invariant

pub returns : goal.returns
returns c = is_true (all_come_apart (row c.args.properties.now)) (none_found some_other c.args.properties.now c.loop-property.property-index refl (omega (arith, c.loop-property-test.false)) c.loop-property.invariant)
