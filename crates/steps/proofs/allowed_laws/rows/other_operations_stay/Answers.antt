use Rattle.steps.proofs.Allowed.TriedExpressions.{negative_stays, signed_stays, zero_stays, fraction_stays, text_and_number_stay, type_of_name_stays}
use Rattle.steps.proofs.allowed_laws.rows.other_operations_stay.Goals as goal

pub returns : goal.returns
returns c = record { negative = negative_stays; signed = signed_stays; zero = zero_stays; fraction = fraction_stays; mixed = text_and_number_stay; name = type_of_name_stays }
