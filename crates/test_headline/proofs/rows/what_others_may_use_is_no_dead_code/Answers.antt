use Rattle.test_headline.proofs.Dead.{call_is_clean, exported_is_clean, evaluated_is_clean, global_is_clean, receiver_is_clean, names_are_clean, sequence_is_clean, prototype_is_clean, minus_is_clean}
use Rattle.test_headline.proofs.rows.what_others_may_use_is_no_dead_code.Goals as goal

pub returns : goal.returns
returns c = record { call = call_is_clean; exported = exported_is_clean; evaluated = evaluated_is_clean; global = global_is_clean; receiver = receiver_is_clean; names = names_are_clean; sequence = sequence_is_clean; prototype = prototype_is_clean; minus = minus_is_clean }
