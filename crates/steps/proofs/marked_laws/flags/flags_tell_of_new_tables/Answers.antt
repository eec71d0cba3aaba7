use Rattle.steps.proofs.Marked.Numbered.{marked_told}
use Rattle.steps.proofs.marked_laws.flags.flags_tell_of_new_tables.Goals as goal

pub returns : goal.returns
returns c = marked_told
