use Rattle.rules.proofs.Export.Edited.{listed_stay}
use Rattle.rules.proofs.export_laws.kept.edits_keep_exported.Goals as goal

pub returns : goal.returns
returns c = listed_stay
