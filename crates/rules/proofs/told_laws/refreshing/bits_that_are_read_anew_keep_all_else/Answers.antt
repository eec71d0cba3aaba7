use Rattle.rules.proofs.Told.Refreshed.{refreshed_nests, refreshed_names}
use Rattle.rules.proofs.told_laws.refreshing.bits_that_are_read_anew_keep_all_else.Goals as goal

pub returns : goal.returns
returns c = record { nested = refreshed_nests; names = refreshed_names }
