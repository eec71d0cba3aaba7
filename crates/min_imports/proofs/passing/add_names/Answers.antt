use Rattle.std.proofs.Common.{arith, refl}
use Rattle.min_imports.proofs.Binding.{adding_more, added}
use Rattle.min_imports.proofs.passing.add_names.Goals as goal

pub loop-name-init : goal.loop-name-init
loop-name-init c = λ x. refl

pub loop-name-preserved : goal.loop-name-preserved
loop-name-preserved c = adding_more c.args.binders.now c.args.names.now c.args.at c.loop-name.name-index c.name-item.result c.loop-name.binders c.add_name.new.binders c.loop-name-test.true c.name-item.is c.in_ok-add_name.ensures c.loop-name.invariant

pub returns : goal.returns
returns c = added c.args.binders.now c.args.names.now c.args.at c.loop-name.name-index c.loop-name.binders (omega (arith, c.loop-name-test.false)) c.loop-name.invariant
