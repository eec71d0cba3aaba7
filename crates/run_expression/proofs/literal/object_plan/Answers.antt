use Rattle.std.proofs.Common.{◌∙◌}
use Rattle.std.proofs.lemmas.Result.{IfOk-weaker}
use Rattle.run_expression.proofs.Operands.{object_of}
use Rattle.run_expression.proofs.literal.object_plan.Goals as goal

pub returns : goal.returns
returns c =
    IfOk-weaker c.then_values.result _ _ (λ p made E. made E ∙ object_of _ _ _ _ (c.in_ok-plan.ensures E) (c.new-below.ensures ∙ c.children.ensures)) c.then_values.ensures
