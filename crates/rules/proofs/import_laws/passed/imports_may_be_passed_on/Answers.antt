use Rattle.rules.proofs.Imports.Passing.{rule_edits}
use Rattle.rules.proofs.import_laws.passed.imports_may_be_passed_on.Goals as goal

pub returns : goal.returns
returns c = rule_edits
