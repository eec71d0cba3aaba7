use Rattle.std.proofs.Common.{◌∙◌}
use Rattle.std.proofs.lemmas.Result.{IfOk-weaker}
use Rattle.run_expression.proofs.Operands.{left_decides}
use Rattle.run_expression.proofs.operator.logical_plan.Goals as goal

pub returns : goal.returns
returns c =
    IfOk-weaker c.then_operand.result _ _ (λ p made E. made E ∙ left_decides E c.args.operator c.args.left.now _ _ _ _ _ (c.in_ok-plan.ensures E) c.in_ok-around.ensures c.new.ensures) c.then_operand.ensures
