-- What the reader of scripts answers.
use Rattle.std.specs.Prelude.{◌≡◌, Result, Ok, Err}
use Rattle.run_world.specs.Script as held
use Rattle.run_script.specs.Script as meant
use Rattle.run_script.specs.declared.read.Input.{Input}
use Rattle.run_script.specs.declared.fault.Field.{Field}
use Rattle.run_script.specs.declared.fault.ScriptError.{ScriptError}
use Rattle.run_script.specs.declared.fault.ScriptError.TheVariants.{Bad, OutOfMemory}

-- this is the input in memory
abbrev pub Gives : Input → Result meant.Input Field → Type 0
Gives i outcome = (m : meant.Input) × (outcome ≡ Ok m) × (held.script_of i.script ≡ meant.script_of m) × (i.bound ≡ m.bound)

-- the cause of each error; memory may be short at any time
abbrev pub Fails : ScriptError → Result meant.Input Field → Type 0
Fails (Bad f) outcome = outcome ≡ Err f
Fails OutOfMemory outcome = Unit {0}
