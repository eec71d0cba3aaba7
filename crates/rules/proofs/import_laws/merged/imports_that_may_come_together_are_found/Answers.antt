use Rattle.rules.proofs.Imports.Together.{rule_goes, rule_stays}
use Rattle.rules.proofs.import_laws.merged.imports_that_may_come_together_are_found.Goals as goal

pub returns : goal.returns
returns c = record { goes = rule_goes; stays = rule_stays }
