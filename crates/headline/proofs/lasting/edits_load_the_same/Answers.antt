use Rattle.headline.proofs.Loading.{edits_load}
use Rattle.headline.proofs.lasting.edits_load_the_same.Goals as goal

pub returns : goal.returns
returns c = λ t u e fits. edits_load e fits
