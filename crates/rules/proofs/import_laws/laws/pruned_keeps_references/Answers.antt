use Rattle.rules.proofs.Imports.Lighter.{pruned_refers, pruned_calls}
use Rattle.rules.proofs.import_laws.laws.pruned_keeps_references.Goals as goal

pub returns : goal.returns
returns c = record { references = pruned_refers; calls = pruned_calls }
