use Rattle.rules.proofs.Imports.Repeating.{repeats_lighter, repeats_refer, repeats_call}
use Rattle.rules.proofs.import_laws.laws.repeated_imports_hold_nothing.Goals as goal

pub returns : goal.returns
returns c = record { lighter = repeats_lighter; references = repeats_refer; calls = repeats_call }
