use Rattle.rules.proofs.Export.Edited.{exports_stay}
use Rattle.rules.proofs.export_laws.kept.edits_lose_no_exports.Goals as goal

pub returns : goal.returns
returns c = exports_stay
