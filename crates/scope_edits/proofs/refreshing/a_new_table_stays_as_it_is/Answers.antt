use Rattle.scope_edits.proofs.Refreshed.{stays}
use Rattle.scope_edits.proofs.refreshing.a_new_table_stays_as_it_is.Goals as goal

pub returns : goal.returns
returns c = stays
