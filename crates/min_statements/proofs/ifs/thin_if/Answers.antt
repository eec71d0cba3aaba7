use Rattle.std.proofs.Common.{◌∙◌, Bool, Some, sym, ap, subst}
use Rattle.min_traverse.specs.Lawful.{or_else, either, Does}
use Rattle.min_traverse.proofs.Joining.{does_none, does_some, first_does, then_does}
use Rattle.rules.specs.Expressions.EmptyIfs.{test_left, fold_empty_if}
use Rattle.rules.specs.Expressions.EmptyAlternates.{is_last, alternate_left, fold_empty_alternate}
use Rattle.rules.specs.Expressions.Ifs.{fold_if}
use Rattle.rules.specs.Expressions.Untaken.{if_left, rid_if}
use Rattle.min_statements.proofs.Branches.{outcome, runs_as_ruled, branch_there, no_call}
use Rattle.min_statements.proofs.ifs.thin_if.Goals as goal

pub keep_child-requires-clause-there : goal.keep_child-requires-clause-there
keep_child-requires-clause-there c = branch_there c.args.node.now.kind c.args.node.now.below c.in-Some-Some.at (sym c.branch_at.ensures ∙ c.in-Some-Some.is ∙ ap Some c.in-Some-Some.field-0-is)

pub keep_child-requires-clause-call : goal.keep_child-requires-clause-call
keep_child-requires-clause-call c = no_call c.args.node.now.kind c.args.node.now.below c.in-Some-Some.at (sym c.branch_at.ensures ∙ c.in-Some-Some.is ∙ ap Some c.in-Some-Some.field-0-is)

pub returns-in-Some-Some : goal.returns-in-Some-Some
returns-in-Some-Some c = record {
  does = does_some (either (either (either fold_if fold_empty_if) fold_empty_alternate) rid_if) c.args.ctx.now c.args.node.now c.keep_child.new.node
      (ap (λ o. or_else (or_else (or_else o (test_left c.args.node.now.note c.args.node.now.kind c.args.node.now.below)) (alternate_left (is_last c.args.ctx.now.place) c.args.node.now.note c.args.node.now.kind c.args.node.now.below)) (if_left c.args.node.now.note c.args.node.now.kind c.args.node.now.below)) (sym (runs_as_ruled c.args.node.now.note c.args.node.now.kind c.args.node.now.below)
      ∙ ap (λ o. outcome c.args.node.now.note o c.args.node.now.below) (sym c.branch_at.ensures ∙ c.in-Some-Some.is ∙ ap Some c.in-Some-Some.field-0-is)
      ∙ c.keep_child.ensures.kept))
      c.keep_child.ensures.edited;
}

pub returns-in-Some-None : goal.returns-in-Some-None
returns-in-Some-None c = record {
  does = does_some (either (either (either fold_if fold_empty_if) fold_empty_alternate) rid_if) c.args.ctx.now c.args.node.now c.put_empty.new.node
      (ap (λ o. or_else (or_else (or_else o (test_left c.args.node.now.note c.args.node.now.kind c.args.node.now.below)) (alternate_left (is_last c.args.ctx.now.place) c.args.node.now.note c.args.node.now.kind c.args.node.now.below)) (if_left c.args.node.now.note c.args.node.now.kind c.args.node.now.below)) (sym (runs_as_ruled c.args.node.now.note c.args.node.now.kind c.args.node.now.below)
      ∙ ap (λ o. outcome c.args.node.now.note o c.args.node.now.below) (sym c.branch_at.ensures ∙ c.in-Some-None.is ∙ ap Some c.in-Some-None.field-0-is)
      ∙ ap Some (sym c.put_empty.ensures.put)))
      c.put_empty.ensures.edited;
}

pub returns-then-fold_empty_if : goal.returns-then-fold_empty_if
returns-then-fold_empty_if c = record {
  does = first_does (either (either fold_if fold_empty_if) fold_empty_alternate) rid_if
      (first_does (either fold_if fold_empty_if) fold_empty_alternate
      (then_does fold_if fold_empty_if
      (does_none fold_if c.args.ctx.now c.args.node.now
      (sym (runs_as_ruled c.args.node.now.note c.args.node.now.kind c.args.node.now.below) ∙ ap (λ o. outcome c.args.node.now.note o c.args.node.now.below) (sym c.branch_at.ensures ∙ c.in-None.is)))
      (subst (λ (b : Bool). Does fold_empty_if c.args.ctx.now c.args.node.now b c.fold_empty_if.new.ctx c.fold_empty_if.new.node) c.if-fold_empty_if.true c.fold_empty_if.ensures.does)));
}

pub returns-then-fold_empty_alternate : goal.returns-then-fold_empty_alternate
returns-then-fold_empty_alternate c = record {
  does = first_does (either (either fold_if fold_empty_if) fold_empty_alternate) rid_if
      (then_does (either fold_if fold_empty_if) fold_empty_alternate
      (then_does fold_if fold_empty_if
      (does_none fold_if c.args.ctx.now c.args.node.now
      (sym (runs_as_ruled c.args.node.now.note c.args.node.now.kind c.args.node.now.below) ∙ ap (λ o. outcome c.args.node.now.note o c.args.node.now.below) (sym c.branch_at.ensures ∙ c.in-None.is)))
      (subst (λ (b : Bool). Does fold_empty_if c.args.ctx.now c.args.node.now b c.fold_empty_if.new.ctx c.fold_empty_if.new.node) c.if-fold_empty_if.false c.fold_empty_if.ensures.does))
      (subst (λ (b : Bool). Does fold_empty_alternate c.fold_empty_if.new.ctx c.fold_empty_if.new.node b c.fold_empty_alternate.new.ctx c.fold_empty_alternate.new.node) c.if-fold_empty_alternate.true c.fold_empty_alternate.ensures.does));
}

pub returns-else-fold_empty_alternate : goal.returns-else-fold_empty_alternate
returns-else-fold_empty_alternate c = record {
  does = then_does (either (either fold_if fold_empty_if) fold_empty_alternate) rid_if
      (then_does (either fold_if fold_empty_if) fold_empty_alternate
      (then_does fold_if fold_empty_if
      (does_none fold_if c.args.ctx.now c.args.node.now
      (sym (runs_as_ruled c.args.node.now.note c.args.node.now.kind c.args.node.now.below) ∙ ap (λ o. outcome c.args.node.now.note o c.args.node.now.below) (sym c.branch_at.ensures ∙ c.in-None.is)))
      (subst (λ (b : Bool). Does fold_empty_if c.args.ctx.now c.args.node.now b c.fold_empty_if.new.ctx c.fold_empty_if.new.node) c.if-fold_empty_if.false c.fold_empty_if.ensures.does))
      (subst (λ (b : Bool). Does fold_empty_alternate c.fold_empty_if.new.ctx c.fold_empty_if.new.node b c.fold_empty_alternate.new.ctx c.fold_empty_alternate.new.node) c.if-fold_empty_alternate.false c.fold_empty_alternate.ensures.does))
      c.thin_branch.ensures.does;
}
