-- Which words are accepted, and what they ask for: by clap's meaning of the command set.
use Rattle.std.specs.Prelude.{Bool, true, false, List, [], ◌∷◌, Option, Some, None, codes}
use Rattle.std.specs.Prelude.{if◌then◌else◌, option_and_then}
use Rattle.std.specs.Option.{option_map_or}
use Rattle.std.specs.Str.{bytes_eq}
use Rattle.clap.specs.Walk.{Row, Text, one_of}
use Rattle.clap.specs.Simple.{subcommand_of}
use Rattle.clap.specs.Kinds.{Kinds}
use Rattle.clap.specs.Faults.{fault_of}
use Rattle.shake_words.specs.Program.{program}
use Rattle.shake_words.specs.declared.answer.Command.{Command}
use Rattle.shake_words.specs.declared.answer.Command.TheVariants.{Dce, Run}

-- there is no kind of fault
abbrev pub is_none : Kinds → Bool
is_none [] = true
is_none (kind ∷ kinds) = false

-- clap finds no fault in the words, of which the first is the program's name
unfoldable pub accepts : List Text → Bool
accepts words = is_none (fault_of program words)

-- the value of a flag among what clap found for a command's arguments
abbrev pub is_set : Text → List Row → Bool
is_set flag rows = option_map_or (λ value. bytes_eq value (codes "true")) (one_of flag rows) false

-- the command of this name, with the flags that were found
abbrev pub command_named : Text → List Row → Option Command
command_named name rows =
    if bytes_eq name (codes "dce") then Some (Dce (is_set (codes "tree-only") rows)) else (if bytes_eq name (codes "run") then Some Run else None)

abbrev pub command_met : Option (Text × List Row) → Option Command
command_met = option_and_then (λ met. command_named met.0 met.1)

-- the command that the words ask for
unfoldable pub command_of : List Text → Option Command
command_of words = command_met (subcommand_of program words)

-- calls for help and for the version, as clap has them
abbrev pub help_words : List Text
help_words =
    codes "--help" ∷ codes "-h" ∷ codes "help" ∷ codes "--version" ∷ codes "-V" ∷ []
