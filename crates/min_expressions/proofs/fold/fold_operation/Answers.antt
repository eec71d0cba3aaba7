use Rattle.std.proofs.Common.{sym, subst}
use Rattle.min_traverse.specs.Lawful.{Does, either}
use Rattle.min_traverse.proofs.Joining.{first_does, then_does}
use Rattle.rules.specs.Expressions.Known.{fold_conditional, fold_logical}
use Rattle.rules.specs.Expressions.Unused.{fold_unused}
use Rattle.min_expressions.proofs.fold.fold_operation.Goals as goal

pub returns-then-fold_decided : goal.returns-then-fold_decided
returns-then-fold_decided c =
    let at = c.fold_decided in
    subst (λ b. Does (either (either fold_conditional fold_logical) fold_unused) c.args.ctx.now c.args.node.now b at.new.ctx at.new.node) (sym c.if-fold_decided.true)
    (first_does (either fold_conditional fold_logical) fold_unused (subst (λ b. Does (either fold_conditional fold_logical) c.args.ctx.now c.args.node.now b at.new.ctx at.new.node) c.if-fold_decided.true at.ensures))

pub returns-else-fold_decided : goal.returns-else-fold_decided
returns-else-fold_decided c =
    let at = c.fold_decided in
    then_does (either fold_conditional fold_logical) fold_unused (subst (λ b. Does (either fold_conditional fold_logical) c.args.ctx.now c.args.node.now b at.new.ctx at.new.node) c.if-fold_decided.false at.ensures) c.remove_unused_expression.ensures.does
