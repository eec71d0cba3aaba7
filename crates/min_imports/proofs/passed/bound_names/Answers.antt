use Rattle.std.proofs.Common.{length, refl, arith}
use Rattle.min_imports.proofs.Naming.{none_bound, more_bound, all_bound}
use Rattle.min_imports.proofs.passed.bound_names.Goals as goal

pub loop-at-init : goal.loop-at-init
loop-at-init c = record { inside = omega arith; bound = none_bound c.new-bound.result c.args.names.now (length c.args.names.now) c.new-bound.ensures.empty refl }

pub loop-at-preserved : goal.loop-at-preserved
loop-at-preserved c = record {
  inside = omega (arith, c.loop-at.invariant.inside);
  bound = more_bound c.loop-at.bound c.bind_item.new.names c.args.names.now _ c.loop-at.at c.index-names-at.result (omega (arith, c.loop-at-test.true)) c.loop-at.invariant.inside c.index-names-at.is c.in_ok-bind_item.ensures c.loop-at.invariant.bound;
}

pub returns : goal.returns
returns c = all_bound c.loop-at.bound c.args.names.now c.loop-at.at (omega (arith, c.loop-at-test.false)) c.loop-at.invariant.bound
