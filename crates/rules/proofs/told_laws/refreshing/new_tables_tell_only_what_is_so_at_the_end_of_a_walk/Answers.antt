use Rattle.rules.proofs.Told.Whole.{walked_told_only}
use Rattle.rules.proofs.told_laws.refreshing.new_tables_tell_only_what_is_so_at_the_end_of_a_walk.Goals as goal

pub returns : goal.returns
returns c = walked_told_only
