use Rattle.steps.proofs.Allowed.TriedExpressions.{acting_value_stays, acting_values_all_stay, computed_keys_stay, computed_key_stays_alone, computed_prototype_leaves, computed_method_leaves}
use Rattle.steps.proofs.allowed_laws.rows.unused_objects_become_values.Goals as goal

pub returns : goal.returns
returns c = record { one_value = acting_value_stays; several = acting_values_all_stay; keys = computed_keys_stay; one_key = computed_key_stays_alone; prototype = computed_prototype_leaves; method = computed_method_leaves }
