use Rattle.std.proofs.Common.{◌∙◌, sym}
use Rattle.min_traverse.proofs.Joining.{does_none, does_some}
use Rattle.rules.specs.Expressions.Indirect.{fold_behind_zero}
use Rattle.rules.specs.Expressions.Uses.{spot_of}
use Rattle.min_expressions.proofs.Behind.{is_behind, goes_as_ruled, stays_as_ruled}
use Rattle.min_expressions.proofs.fold.PeepholeOptimizations.put_behind_zero.Goals as goal

pub keep_behind_zero-requires-clause-there : goal.keep_behind_zero-requires-clause-there
keep_behind_zero-requires-clause-there c = (is_behind (spot_of c.args.ctx.now.place) c.args.node.now.kind c.args.node.now.below c.in-Some.at (sym c.goes_behind.ensures ∙ c.in-Some.is)).there

pub keep_behind_zero-requires-clause-second : goal.keep_behind_zero-requires-clause-second
keep_behind_zero-requires-clause-second c = (is_behind (spot_of c.args.ctx.now.place) c.args.node.now.kind c.args.node.now.below c.in-Some.at (sym c.goes_behind.ensures ∙ c.in-Some.is)).second

pub returns-in_ok-keep_behind_zero-in-Some-clause-does : goal.returns-in_ok-keep_behind_zero-in-Some-clause-does
returns-in_ok-keep_behind_zero-in-Some-clause-does c =
    does_some fold_behind_zero c.args.ctx.now c.args.node.now c.keep_behind_zero.new.node
    (goes_as_ruled (spot_of c.args.ctx.now.place) c.args.node.now.note c.args.node.now.kind c.args.node.now.below c.in-Some.at c.keep_behind_zero.new.node (sym c.goes_behind.ensures ∙ c.in-Some.is) c.in_ok-keep_behind_zero-in-Some.ensures.kept)
    c.in_ok-keep_behind_zero-in-Some.ensures.edited

pub returns-in-None-clause-does : goal.returns-in-None-clause-does
returns-in-None-clause-does c =
    does_none fold_behind_zero c.args.ctx.now c.args.node.now (stays_as_ruled (spot_of c.args.ctx.now.place) c.args.node.now.note c.args.node.now.kind c.args.node.now.below (sym c.goes_behind.ensures ∙ c.in-None.is))
