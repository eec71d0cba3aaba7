use Rattle.rules.proofs.Told.Anew.{refreshed_tells}
use Rattle.rules.proofs.told_laws.refreshing.bits_that_are_read_anew_tell_as_much.Goals as goal

pub returns : goal.returns
returns c = λ u fits s h. refreshed_tells s u fits h
