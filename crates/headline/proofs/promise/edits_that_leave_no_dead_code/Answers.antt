use Rattle.headline.proofs.Headline.{headline_of}
use Rattle.headline.proofs.promise.edits_that_leave_no_dead_code.Goals as goal

pub returns : goal.returns
returns c = headline_of
