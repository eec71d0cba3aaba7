use Rattle.steps.proofs.Marked.Telling.{flags_alone}
use Rattle.steps.proofs.marked_laws.flags.flags_alone_tell.Goals as goal

pub returns : goal.returns
returns c = flags_alone
