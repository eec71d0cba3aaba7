use Rattle.steps.proofs.Marked.Unexporting.{edits_export}
use Rattle.steps.proofs.marked_laws.exports.edits_bring_no_exports.Goals as goal

pub returns : goal.returns
returns c = edits_export
