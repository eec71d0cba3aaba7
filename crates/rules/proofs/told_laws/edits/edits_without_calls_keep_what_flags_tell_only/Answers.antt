use Rattle.rules.proofs.Told.Edited.{edits_told_only}
use Rattle.rules.proofs.told_laws.edits.edits_without_calls_keep_what_flags_tell_only.Goals as goal

pub returns : goal.returns
returns c = λ t u edits fits same s h. edits_told_only s t u edits fits same h
