use Rattle.steps.proofs.Allowed.TriedExpressions.{negation_is_known, type_is_known, sum_is_known, texts_are_joined, comparison_is_known, difference_is_known}
use Rattle.steps.proofs.allowed_laws.rows.known_operations_become_literals.Goals as goal

pub returns : goal.returns
returns c = record { negation = negation_is_known; type_name = type_is_known; sum = sum_is_known; texts = texts_are_joined; comparison = comparison_is_known; difference = difference_is_known }
