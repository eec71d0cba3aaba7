use Rattle.std.proofs.Common.{refl, arith}
use Rattle.min_statements.specs.Shed.{declarators_shed}
use Rattle.min_statements.proofs.Shed.{leaves_none, asked_still, next, all, declarators_each}
use Rattle.min_statements.proofs.trimmed.drop_declarators.Goals as goal

pub loop-declarator-init : goal.loop-declarator-init
loop-declarator-init c = leaves_none c.args.ctx.now

pub drop_declarator-requires : goal.drop_declarator-requires
drop_declarator-requires c = record { asked = asked_still c.loop-declarator.invariant c.requires.asked }

pub loop-declarator-preserved : goal.loop-declarator-preserved
loop-declarator-preserved c = next (λ m f t. declarators_shed m f c.args.at c.args.how t) (λ m f. refl) (declarators_each c.args.at c.args.how) c.args.names.now c.args.declarators.now c.loop-declarator.declarator-index c.declarator-item.result c.loop-declarator-test.true c.declarator-item.is c.loop-declarator.invariant c.drop_declarator.ensures.left

pub returns : goal.returns
returns c = record { left = all (λ m f t. declarators_shed m f c.args.at c.args.how t) (λ m f. refl) (declarators_each c.args.at c.args.how) c.args.names.now c.args.declarators.now c.loop-declarator.declarator-index (omega (arith, c.loop-declarator-test.false)) c.loop-declarator.invariant }
