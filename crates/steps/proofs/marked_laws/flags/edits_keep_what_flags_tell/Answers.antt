use Rattle.steps.proofs.Marked.Telling.{edits_told}
use Rattle.steps.proofs.marked_laws.flags.edits_keep_what_flags_tell.Goals as goal

pub returns : goal.returns
returns c = λ t u edits fits s. edits_told s t u edits fits
