use Rattle.std.proofs.Common.{◌∙◌, sym}
use Rattle.min_traverse.proofs.Joining.{does_none, does_some}
use Rattle.rules.specs.Expressions.Lists.{new_note}
use Rattle.rules.specs.Expressions.OneSided.{fold_one_sided}
use Rattle.rules.specs.Expressions.Uses.{spot_of}
use Rattle.min_expressions.proofs.Sided.{operator_there, sided_left, sided_stays}
use Rattle.min_expressions.proofs.fold.PeepholeOptimizations.fold_one_sided_choice.Goals as goal

pub keep_one_side-requires : goal.keep_one_side-requires
keep_one_side-requires c = record { one = operator_there (spot_of c.args.ctx.now.place) c.args.node.now.kind c.args.node.now.below c.in-Some.operator (sym c.stays_one_sided.ensures ∙ c.in-Some.is) }

pub returns-in-Some : goal.returns-in-Some
returns-in-Some c = record {
  does = does_some fold_one_sided c.args.ctx.now c.args.node.now c.keep_one_side.new.node
      (sided_left (spot_of c.args.ctx.now.place) c.args.node.now.kind c.args.node.now.below (new_note c.args.node.now.note) c.in-Some.operator c.keep_one_side.new.node (sym c.stays_one_sided.ensures ∙ c.in-Some.is) c.keep_one_side.ensures.kept)
      c.keep_one_side.ensures.edited;
}

pub returns-in-None : goal.returns-in-None
returns-in-None c = record { does = does_none fold_one_sided c.args.ctx.now c.args.node.now (sided_stays (spot_of c.args.ctx.now.place) c.args.node.now.kind c.args.node.now.below (new_note c.args.node.now.note) (sym c.stays_one_sided.ensures ∙ c.in-None.is)) }
