use Rattle.headline.proofs.Renoted.{clean_as}
use Rattle.headline.proofs.clean.notes_hide_no_dead_code.Goals as goal

pub returns : goal.returns
returns c = clean_as
