use Rattle.steps.proofs.Allowed.TriedExpressions.{negation_goes, typeof_goes, sign_goes, first_side_stays, second_side_stays, left_side_stays, condition_stays, operand_in_parentheses}
use Rattle.steps.proofs.allowed_laws.rows.unused_operations_become_operands.Goals as goal

pub returns : goal.returns
returns c = record { negation = negation_goes; type_of = typeof_goes; sign = sign_goes; first_side = first_side_stays; second_side = second_side_stays; left_side = left_side_stays; condition = condition_stays; in_parentheses = operand_in_parentheses }
