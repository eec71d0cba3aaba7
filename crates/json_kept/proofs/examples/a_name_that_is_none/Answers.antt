use Rattle.json_kept.proofs.Computed.{name_read, name_counted, name_back}
use Rattle.json_kept.proofs.examples.a_name_that_is_none.Goals as goal

pub returns : goal.returns
returns c = record { read = name_read; counted = name_counted; back = name_back }
