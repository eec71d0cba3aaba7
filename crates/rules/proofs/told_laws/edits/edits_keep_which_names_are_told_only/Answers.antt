use Rattle.rules.proofs.Told.Edited.{edits_names}
use Rattle.rules.proofs.told_laws.edits.edits_keep_which_names_are_told_only.Goals as goal

pub returns : goal.returns
returns c = λ t u edits fits s h. edits_names s t u edits fits h
