use Rattle.std.proofs.Common.{◌∙◌, false, sym, ap}
use Rattle.min_traverse.proofs.Joining.{does_none, does_some}
use Rattle.rules.specs.Expressions.EmptyAlternates.{last_from, alternate_left, fold_empty_alternate}
use Rattle.min_statements.proofs.Alternates.{none_ruled, none_there}
use Rattle.min_statements.proofs.empty_alternates.fold_empty_alternate.Goals as goal

pub drop_alternate-requires : goal.drop_alternate-requires
drop_alternate-requires c = record { empty = sym c.has_empty_alternate.ensures ∙ c.if-not-has_empty_alternate.false }

pub returns-then-not-has_empty_alternate : goal.returns-then-not-has_empty_alternate
returns-then-not-has_empty_alternate c = record {
  does = does_none fold_empty_alternate c.args.ctx.now c.args.node.now (none_ruled _ c.args.node.now.note c.args.node.now.kind c.args.node.now.below (sym c.has_empty_alternate.ensures ∙ c.if-not-has_empty_alternate.true));
}

pub returns-then-not-last_from : goal.returns-then-not-last_from
returns-then-not-last_from c = record {
  does = does_none fold_empty_alternate c.args.ctx.now c.args.node.now
      (ap (λ l. alternate_left l c.args.node.now.note c.args.node.now.kind c.args.node.now.below) (ap (last_from false) (sym c.ancestors_above.ensures) ∙ sym c.last_from.ensures ∙ c.if-not-last_from.true) ∙ none_there c.args.node.now.note c.args.node.now.kind c.args.node.now.below);
}

pub returns : goal.returns
returns c = record {
  does = does_some fold_empty_alternate c.args.ctx.now c.args.node.now c.drop_alternate.new.node
      (ap (λ l. alternate_left l c.args.node.now.note c.args.node.now.kind c.args.node.now.below) (ap (last_from false) (sym c.ancestors_above.ensures) ∙ sym c.last_from.ensures ∙ c.if-not-last_from.false) ∙ c.drop_alternate.ensures.left)
      c.drop_alternate.ensures.edited;
}
