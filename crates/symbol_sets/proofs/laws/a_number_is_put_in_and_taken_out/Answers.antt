use Rattle.symbol_sets.proofs.Calls.{put_in, taken_out}
use Rattle.symbol_sets.proofs.laws.a_number_is_put_in_and_taken_out.Goals as goal

pub returns : goal.returns
returns c = record { put_in = put_in; taken_out = taken_out }
