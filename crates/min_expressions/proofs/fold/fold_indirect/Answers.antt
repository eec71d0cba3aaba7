use Rattle.std.proofs.Common.{◌∙◌, subst}
use Rattle.std.proofs.lemmas.Result.{IfOk-weaker, IfErr-weaker}
use Rattle.min_traverse.specs.Lawful.{Does}
use Rattle.min_traverse.proofs.Joining.{first_does, then_does}
use Rattle.rules.specs.Expressions.Indirect.{fold_behind_zero, fold_behind_test}
use Rattle.min_expressions.proofs.Behind.{nothing_done}
use Rattle.min_expressions.proofs.fold.fold_indirect.Goals as goal

pub returns-then-branch-clause-does : goal.returns-then-branch-clause-does
returns-then-branch-clause-does c =
    let at = c.put_behind_zero in
    first_does fold_behind_zero fold_behind_test (subst (λ b. Does fold_behind_zero c.args.ctx.now c.args.node.now b at.new.ctx at.new.node) c.if-branch.true c.in_ok-put_behind_zero.ensures.does)

pub returns-clause-does : goal.returns-clause-does
returns-clause-does c =
    let at = c.put_behind_zero in
    IfOk-weaker c.put_behind_test.result _ _ (λ b. then_does fold_behind_zero fold_behind_test (subst (λ a. Does fold_behind_zero c.args.ctx.now c.args.node.now a at.new.ctx at.new.node) c.if-branch.false c.in_ok-put_behind_zero.ensures.does)) c.put_behind_test.ensures.does

pub returns-clause-refused : goal.returns-clause-refused
returns-clause-refused c =
    let at = c.put_behind_zero in
    let same = nothing_done fold_behind_zero (subst (λ a. Does fold_behind_zero c.args.ctx.now c.args.node.now a at.new.ctx at.new.node) c.if-branch.false c.in_ok-put_behind_zero.ensures.does) in
    IfErr-weaker c.put_behind_test.result _ _ (λ e h. (h.0 ∙ same.0, h.1 ∙ same.1)) c.put_behind_test.ensures.refused
