use Rattle.rules.proofs.Imports.Lighter.{pruned_lighter}
use Rattle.rules.proofs.import_laws.laws.pruned_is_lighter.Goals as goal

pub returns : goal.returns
returns c = pruned_lighter
