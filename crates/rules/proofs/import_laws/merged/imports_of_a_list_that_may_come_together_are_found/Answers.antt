use Rattle.js_syntax.specs.Node.{nothing}
use Rattle.rules.proofs.Imports.Together.{none_may_go, none_goes, none_come}
use Rattle.rules.proofs.import_laws.merged.imports_of_a_list_that_may_come_together_are_found.Goals as goal

pub returns : goal.returns
returns c = record { goes = none_may_go; stays = none_goes; same = none_come nothing }
