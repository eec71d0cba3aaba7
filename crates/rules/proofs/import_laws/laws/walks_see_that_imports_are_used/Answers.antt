use Rattle.rules.proofs.Imports.Walked.{imports_used}
use Rattle.rules.proofs.import_laws.laws.walks_see_that_imports_are_used.Goals as goal

pub returns : goal.returns
returns c = imports_used
