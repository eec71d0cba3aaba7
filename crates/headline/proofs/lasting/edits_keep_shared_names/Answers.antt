use Rattle.headline.proofs.Rooted.{edits_names}
use Rattle.headline.proofs.lasting.edits_keep_shared_names.Goals as goal

pub returns : goal.returns
returns c = λ t u e fits shared. edits_names e fits shared
