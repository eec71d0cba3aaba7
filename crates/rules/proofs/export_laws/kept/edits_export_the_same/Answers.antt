use Rattle.rules.proofs.Export.Edited.{exports_same}
use Rattle.rules.proofs.export_laws.kept.edits_export_the_same.Goals as goal

pub returns : goal.returns
returns c = exports_same
