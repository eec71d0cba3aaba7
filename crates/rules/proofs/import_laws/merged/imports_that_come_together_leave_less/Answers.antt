use Rattle.rules.proofs.Imports.Together.{rule_lighter, rule_refers, rule_calls}
use Rattle.rules.proofs.import_laws.merged.imports_that_come_together_leave_less.Goals as goal

pub returns : goal.returns
returns c = record { lighter = rule_lighter; references = rule_refers; calls = rule_calls }
