use Rattle.std.proofs.Common.{◌∙◌, sym, ap}
use Rattle.min_traverse.proofs.Joining.{does_none, does_some}
use Rattle.rules.specs.Expressions.Known.{fold_conditional}
use Rattle.rules.specs.Expressions.Uses.{spot_of}
use Rattle.min_expressions.proofs.Chosen.{chosen, conditional_chosen, conditional_there}
use Rattle.min_expressions.proofs.fold.PeepholeOptimizations.try_fold_conditional_expression.Goals as goal

pub keep_child-requires-clause-there : goal.keep_child-requires-clause-there
keep_child-requires-clause-there c = conditional_there (spot_of c.args.ctx.now.place) c.args.node.now.kind c.args.node.now.below c.in-Some.at (sym c.conditional_keeps.ensures ∙ c.in-Some.is)

pub returns-in-Some : goal.returns-in-Some
returns-in-Some c = record {
  does = does_some fold_conditional c.args.ctx.now c.args.node.now c.keep_child.new.node
      (sym (conditional_chosen (spot_of c.args.ctx.now.place) c.args.node.now.kind c.args.node.now.below) ∙ ap (λ o. chosen o c.args.node.now.below) (sym c.conditional_keeps.ensures ∙ c.in-Some.is) ∙ c.keep_child.ensures.kept)
      c.keep_child.ensures.edited;
}

pub returns-in-None : goal.returns-in-None
returns-in-None c = record {
  does = does_none fold_conditional c.args.ctx.now c.args.node.now
      (sym (conditional_chosen (spot_of c.args.ctx.now.place) c.args.node.now.kind c.args.node.now.below) ∙ ap (λ o. chosen o c.args.node.now.below) (sym c.conditional_keeps.ensures ∙ c.in-None.is));
}
