use Rattle.rules.proofs.Imports.Passing.{rule_goes, rule_stays}
use Rattle.rules.proofs.import_laws.passed.imports_that_may_be_passed_on_are_found.Goals as goal

pub returns : goal.returns
returns c = record { goes = rule_goes; stays = rule_stays }
