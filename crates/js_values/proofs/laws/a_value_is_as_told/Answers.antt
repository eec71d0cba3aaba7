use Rattle.js_values.proofs.Values.{has_type, has_value, has_truth}
use Rattle.js_values.proofs.laws.a_value_is_as_told.Goals as goal

pub returns : goal.returns
returns c = record { has_type = has_type; has_value = has_value; has_truth = has_truth }
