use Rattle.std.proofs.Common.{◌∙◌, subst}
use Rattle.std.proofs.lemmas.Result.{IfOk-weaker, IfErr-weaker}
use Rattle.min_traverse.specs.Lawful.{Does}
use Rattle.min_traverse.proofs.Joining.{first_does, then_does}
use Rattle.rules.specs.Expressions.Operations.{fold_to_literal, fold_to_negative}
use Rattle.min_expressions.proofs.Behind.{nothing_done}
use Rattle.min_expressions.proofs.fold.PeepholeOptimizations.fold_known_operation.Goals as goal

pub returns-then-branch-clause-does : goal.returns-then-branch-clause-does
returns-then-branch-clause-does c =
    let at = c.fold_to_literal in
    first_does fold_to_literal fold_to_negative (subst (λ b. Does fold_to_literal c.args.ctx.now c.args.node.now b at.new.ctx at.new.node) c.if-branch.true c.in_ok-fold_to_literal.ensures.does)

pub returns-clause-does : goal.returns-clause-does
returns-clause-does c =
    let at = c.fold_to_literal in
    IfOk-weaker c.fold_to_negative.result _ _ (λ b. then_does fold_to_literal fold_to_negative (subst (λ a. Does fold_to_literal c.args.ctx.now c.args.node.now a at.new.ctx at.new.node) c.if-branch.false c.in_ok-fold_to_literal.ensures.does)) c.fold_to_negative.ensures.does

pub returns-clause-refused : goal.returns-clause-refused
returns-clause-refused c =
    let at = c.fold_to_literal in
    let same = nothing_done fold_to_literal (subst (λ a. Does fold_to_literal c.args.ctx.now c.args.node.now a at.new.ctx at.new.node) c.if-branch.false c.in_ok-fold_to_literal.ensures.does) in
    IfErr-weaker c.fold_to_negative.result _ _ (λ e h. (h.0 ∙ same.0, h.1 ∙ same.1)) c.fold_to_negative.ensures.refused
