use Rattle.std.proofs.Common.{sym, subst}
use Rattle.min_traverse.specs.Lawful.{Does, either}
use Rattle.min_traverse.proofs.Joining.{first_does, then_does}
use Rattle.rules.specs.Expressions.Known.{fold_conditional, fold_logical}
use Rattle.rules.specs.Expressions.Unused.{fold_unused}
use Rattle.rules.specs.Expressions.Lists.{fold_unused_list}
use Rattle.min_expressions.proofs.fold.fold_without_memory.Goals as goal

pub returns-then-fold_operation : goal.returns-then-fold_operation
returns-then-fold_operation c =
    let at = c.fold_operation in
    subst (λ b. Does (either (either (either fold_conditional fold_logical) fold_unused) fold_unused_list) c.args.ctx.now c.args.node.now b at.new.ctx at.new.node) (sym c.if-fold_operation.true)
    (first_does (either (either fold_conditional fold_logical) fold_unused) fold_unused_list (subst (λ b. Does (either (either fold_conditional fold_logical) fold_unused) c.args.ctx.now c.args.node.now b at.new.ctx at.new.node) c.if-fold_operation.true at.ensures))

pub returns-else-fold_operation : goal.returns-else-fold_operation
returns-else-fold_operation c =
    let at = c.fold_operation in
    then_does (either (either fold_conditional fold_logical) fold_unused) fold_unused_list (subst (λ b. Does (either (either fold_conditional fold_logical) fold_unused) c.args.ctx.now c.args.node.now b at.new.ctx at.new.node) c.if-fold_operation.false at.ensures) c.remove_unused_list.ensures.does
