use Rattle.std.proofs.Common.{◌∙◌, sym, ap, arith}
use Rattle.std.specs.Option.{option_map}
use Rattle.js_syntax.specs.Node.{forest_of}
use Rattle.min_imports.proofs.Naming.{none_so_far, one_more, one_fails, all_so}
use Rattle.min_imports.proofs.passed.passed_all.Goals as goal

pub loop-item-init : goal.loop-item-init
loop-item-init c = none_so_far c.args.bound.now c.args.specifiers.now c.new-passed.result.items c.new-passed.ensures.items

pub loop-item-preserved : goal.loop-item-preserved
loop-item-preserved c =
    one_more c.args.bound.now c.args.specifiers.now c.loop-item.item-index c.item-item.result c.loop-item.passed.items c.push.new.self.items c.in-Some.name c.loop-item-test.true c.item-item.is
    (λ later told. ap (option_map (λ n. forest_of n)) (sym c.in-Some.is) ∙ c.in_ok-found.ensures later told) c.in_ok-push.ensures.items c.loop-item.invariant

pub returns-in_default : goal.returns-in_default
returns-in_default c =
    one_fails c.args.bound.now c.args.specifiers.now c.loop-item.item-index c.item-item.result c.loop-item.passed.items c.loop-item-test.true c.item-item.is
    (λ later told. ap (option_map (λ n. forest_of n)) (sym c.in_default.is) ∙ c.in_ok-found.ensures later told) c.loop-item.invariant

pub returns : goal.returns
returns c = all_so c.args.bound.now c.args.specifiers.now c.loop-item.item-index c.loop-item.passed.items (omega (arith, c.loop-item-test.false)) c.loop-item.invariant
