use Rattle.steps.proofs.Allowed.TriedExpressions.{empty_text_stays, used_text_stays, number_in_a_sum_stays, silent_truth_stays, empty_template_stays, used_template_stays, tagged_template_stays}
use Rattle.steps.proofs.allowed_laws.rows.other_sums_stay.Goals as goal

pub returns : goal.returns
returns c = record { empty = empty_text_stays; used = used_text_stays; no_text = number_in_a_sum_stays; silent = silent_truth_stays; empty_template = empty_template_stays; used_template = used_template_stays; tagged = tagged_template_stays }
