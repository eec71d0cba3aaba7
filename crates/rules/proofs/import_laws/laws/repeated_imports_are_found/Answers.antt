use Rattle.rules.proofs.Imports.Repeating.{none_repeats, once_without}
use Rattle.rules.proofs.import_laws.laws.repeated_imports_are_found.Goals as goal

pub returns : goal.returns
returns c = record { goes = none_repeats; stays = once_without }
