use Rattle.rules.proofs.Imports.Repeating.{repeats_leave}
use Rattle.rules.proofs.import_laws.laws.repeated_imports_may_go.Goals as goal

pub returns : goal.returns
returns c = repeats_leave
