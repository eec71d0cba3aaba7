use Rattle.rules.proofs.Told.Refreshed.{refreshed_tells_only, edits_refreshed}
use Rattle.rules.proofs.told_laws.refreshing.bits_that_are_read_anew_tell_only_what_is_so.Goals as goal

pub returns : goal.returns
returns c = record { edits = λ t u edits fits s nest h. edits_refreshed s t u edits fits nest h; names = λ u fits s nest h. refreshed_tells_only s u fits nest h }
