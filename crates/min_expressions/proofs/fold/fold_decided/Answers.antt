use Rattle.std.proofs.Common.{sym, subst}
use Rattle.min_traverse.specs.Lawful.{Does, either}
use Rattle.min_traverse.proofs.Joining.{first_does, then_does}
use Rattle.rules.specs.Expressions.Known.{fold_conditional, fold_logical}
use Rattle.min_expressions.proofs.fold.fold_decided.Goals as goal

pub returns-then-try_fold_conditional_expression : goal.returns-then-try_fold_conditional_expression
returns-then-try_fold_conditional_expression c =
    let at = c.try_fold_conditional_expression in
    subst (λ b. Does (either fold_conditional fold_logical) c.args.ctx.now c.args.node.now b at.new.ctx at.new.node) (sym c.if-try_fold_conditional_expression.true)
    (first_does fold_conditional fold_logical (subst (λ b. Does fold_conditional c.args.ctx.now c.args.node.now b at.new.ctx at.new.node) c.if-try_fold_conditional_expression.true at.ensures.does))

pub returns-else-try_fold_conditional_expression : goal.returns-else-try_fold_conditional_expression
returns-else-try_fold_conditional_expression c =
    let at = c.try_fold_conditional_expression in
    then_does fold_conditional fold_logical (subst (λ b. Does fold_conditional c.args.ctx.now c.args.node.now b at.new.ctx at.new.node) c.if-try_fold_conditional_expression.false at.ensures.does) c.fold_logical_expr.ensures.does
