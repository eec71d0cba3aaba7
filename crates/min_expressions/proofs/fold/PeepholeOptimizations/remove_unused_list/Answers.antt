use Rattle.std.proofs.Common.{◌∙◌, sym}
use Rattle.min_traverse.proofs.Joining.{does_none, does_some}
use Rattle.rules.specs.Expressions.Lists.{fold_unused_list}
use Rattle.rules.specs.Expressions.Uses.{spot_of}
use Rattle.min_expressions.proofs.Templates.{goes_there, list_left, template_there, template_left, neither_goes}
use Rattle.min_expressions.proofs.fold.PeepholeOptimizations.remove_unused_list.Goals as goal

pub keep_list-requires : goal.keep_list-requires
keep_list-requires c = record { goes = goes_there (spot_of c.args.ctx.now.place) c.args.node.now.kind c.args.node.now.below (sym c.list_goes.ensures ∙ c.if-list_goes.true) }

pub returns-then-list_goes : goal.returns-then-list_goes
returns-then-list_goes c = record {
  does = does_some fold_unused_list c.args.ctx.now c.args.node.now c.keep_list.new.node
      (list_left (spot_of c.args.ctx.now.place) c.args.node.now.note c.args.node.now.kind c.args.node.now.below c.keep_list.new.node (sym c.list_goes.ensures ∙ c.if-list_goes.true) c.keep_list.ensures.kept)
      c.keep_list.ensures.edited;
}

pub keep_substitutions-requires : goal.keep_substitutions-requires
keep_substitutions-requires c = record { goes = template_there (spot_of c.args.ctx.now.place) c.args.node.now.note c.args.node.now.kind c.args.node.now.below (sym c.template_goes.ensures ∙ c.if-template_goes.true) }

pub returns-then-template_goes : goal.returns-then-template_goes
returns-then-template_goes c = record {
  does = does_some fold_unused_list c.args.ctx.now c.args.node.now c.keep_substitutions.new.node
      (template_left (spot_of c.args.ctx.now.place) c.args.node.now.note c.args.node.now.kind c.args.node.now.below c.keep_substitutions.new.node (sym c.template_goes.ensures ∙ c.if-template_goes.true) c.keep_substitutions.ensures.kept)
      c.keep_substitutions.ensures.edited;
}

pub returns-else-template_goes : goal.returns-else-template_goes
returns-else-template_goes c = record {
  does = does_none fold_unused_list c.args.ctx.now c.args.node.now
      (neither_goes (spot_of c.args.ctx.now.place) c.args.node.now.note c.args.node.now.kind c.args.node.now.below (sym c.list_goes.ensures ∙ c.if-list_goes.false) (sym c.template_goes.ensures ∙ c.if-template_goes.false));
}
