use Rattle.std.proofs.Common.{◌∙◌, sym}
use Rattle.min_traverse.proofs.Joining.{does_none, does_some}
use Rattle.rules.specs.Expressions.Unused.{fold_unused}
use Rattle.rules.specs.Expressions.Uses.{spot_of}
use Rattle.min_expressions.proofs.Needed.{unused_there, unused_left, unused_stays}
use Rattle.min_expressions.proofs.fold.PeepholeOptimizations.remove_unused_expression.Goals as goal

pub keep_needed-requires-clause-there : goal.keep_needed-requires-clause-there
keep_needed-requires-clause-there c = unused_there c.args.node.now.kind c.args.node.now.below (spot_of c.args.ctx.now.place) c.in-Some.at (sym c.unused_keeps.ensures ∙ c.in-Some.is)

pub returns-in-Some : goal.returns-in-Some
returns-in-Some c = record {
  does = does_some fold_unused c.args.ctx.now c.args.node.now c.keep_needed.new.node
      (unused_left c.args.node.now.kind c.args.node.now.below (spot_of c.args.ctx.now.place) c.in-Some.at c.keep_needed.new.node (sym c.unused_keeps.ensures ∙ c.in-Some.is) c.keep_needed.ensures.kept)
      c.keep_needed.ensures.edited;
}

pub returns-in-None : goal.returns-in-None
returns-in-None c = record { does = does_none fold_unused c.args.ctx.now c.args.node.now (unused_stays c.args.node.now.kind c.args.node.now.below (spot_of c.args.ctx.now.place) (sym c.unused_keeps.ensures ∙ c.in-None.is)) }
