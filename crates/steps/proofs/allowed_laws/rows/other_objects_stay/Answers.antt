use Rattle.steps.proofs.Allowed.TriedExpressions.{used_object_stays, idle_object_stays, getter_stays, spread_object_stays, unknown_key_stays, acting_method_key_stays}
use Rattle.steps.proofs.allowed_laws.rows.other_objects_stay.Goals as goal

pub returns : goal.returns
returns c = record { used = used_object_stays; idle = idle_object_stays; getter = getter_stays; spread = spread_object_stays; unknown_key = unknown_key_stays; method = acting_method_key_stays }
