use Rattle.steps.proofs.Owed.Edited.{edit_may_change, nothing_changes}
use Rattle.steps.proofs.owed_laws.edits.where_nothing_may_change_nothing_does.Goals as goal

pub returns : goal.returns
returns c = record { edit = edit_may_change; edits = nothing_changes }
