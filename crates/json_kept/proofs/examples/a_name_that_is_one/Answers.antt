use Rattle.json_kept.proofs.Computed.{one_counted, one_back}
use Rattle.json_kept.proofs.examples.a_name_that_is_one.Goals as goal

pub returns : goal.returns
returns c = record { counted = one_counted; back = one_back }
