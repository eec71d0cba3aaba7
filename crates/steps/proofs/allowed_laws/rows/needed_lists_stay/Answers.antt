use Rattle.steps.proofs.Allowed.TriedExpressions.{spread_stays, acting_array_stays, used_spread_stays, used_array_stays, last_array_stays, acting_sequence_stays}
use Rattle.steps.proofs.allowed_laws.rows.needed_lists_stay.Goals as goal

pub returns : goal.returns
returns c = record { spread = spread_stays; beside_a_spread = acting_array_stays; used = used_array_stays; used_spread = used_spread_stays; last_part = last_array_stays; all_parts = acting_sequence_stays }
