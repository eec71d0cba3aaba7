use Rattle.rules.proofs.Told.Edited.{joined_only, calls_of, names_of}
use Rattle.rules.proofs.told_laws.edits.flags_tell_only_by_parts.Goals as goal

pub returns : goal.returns
returns c = record { joined = joined_only; calls = calls_of; names = names_of }
