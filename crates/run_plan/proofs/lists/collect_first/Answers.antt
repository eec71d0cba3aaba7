use Rattle.std.proofs.Common.{◌∙◌}
use Rattle.std.proofs.lemmas.Result.{IfOk-weaker}
use Rattle.run_plan.proofs.Rows.{collects}
use Rattle.run_plan.proofs.lists.collect_first.Goals as goal

pub returns : goal.returns
returns c =
    IfOk-weaker c.then_operand.result _ _ (λ p h E. h E ∙ collects E c.args.node.now _ _ _ _ _ _ _ _ (c.in_ok-plan.ensures E) c.asked.ensures c.in_ok-around.ensures c.new.ensures) c.then_operand.ensures
