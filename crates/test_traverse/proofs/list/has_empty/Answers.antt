use Rattle.std.proofs.Common.{◌∙◌, sym, refl, arith}
use Rattle.js_tree.proofs.Search.{found_at, rest_of, none_found}
use Rattle.test_traverse.specs.Bodies.{has_empty}
use Rattle.test_traverse.proofs.Lists.{empty_each, empty_one}
use Rattle.test_traverse.proofs.list.has_empty.Goals as goal

pub returns-then-is_empty_place : goal.returns-then-is_empty_place
returns-then-is_empty_place c =
    sym (found_at has_empty empty_each c.args.children.now c.loop-child.child-index c.child-item.result c.loop-child-test.true c.child-item.is (empty_one c.child-item.result ∙ sym c.is_empty_place.ensures ∙ c.if-is_empty_place.true))

pub loop-child-preserved : goal.loop-child-preserved
loop-child-preserved c =
    rest_of has_empty empty_each c.args.children.now c.loop-child.child-index c.child-item.result c.loop-child-test.true c.child-item.is
    (empty_one c.child-item.result ∙ sym c.is_empty_place.ensures ∙ c.if-is_empty_place.false) c.loop-child.invariant

pub returns : goal.returns
returns c = sym (none_found has_empty c.args.children.now c.loop-child.child-index refl (omega (arith, c.loop-child-test.false)) c.loop-child.invariant)
