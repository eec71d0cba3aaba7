-- What is answered for bytes that ask for a run, and why none is run.
use Rattle.std.specs.Prelude.{◌≡◌, ℕ, List, Some, None, Ok, Err, codes, string_bytes}
use Rattle.serde_json.specs.Data.{Data}
use Rattle.serde_json.specs.Find.{get}
use Rattle.js_syntax.specs.Node.{Forest}
use Rattle.json_text.specs.Answer.{IsNoJson}
use Rattle.json_text.specs.Fault.{unknown_node, bad_field, out_of_range, too_deep}
use Rattle.json_text.specs.declared.error.TreeError.{TreeError}
use Rattle.json_text.specs.declared.error.TreeError.TheVariants as tree
use Rattle.form_rules.specs.Form.{IsWellFormed}
use Rattle.min_driver.specs.Limit.{IsWithinLimits}
use Rattle.min_driver.specs.Minify.{IsCause}
use Rattle.run_covered.specs.Covered.{first_outside}
use Rattle.run_script.specs.declared.fault.Field.{Field}
use Rattle.run_script.specs.declared.fault.Field.TheVariants as field
use Rattle.run_script.specs.declared.fault.ScriptError.{ScriptError}
use Rattle.run_script.specs.declared.fault.ScriptError.TheVariants as script
use Rattle.run_script.specs.Script.{read_script}
use Rattle.run_module.specs.Running.{IsJson, HasProgram, HasRuns}
use Rattle.run_module.specs.declared.error.RunError.{RunError}
use Rattle.run_module.specs.declared.error.RunError.TheVariants.{Tree, Refused, NotCore, Bad, OutOfMemory}

-- the field of the value that is at fault
abbrev pub IsBad : Field → Data → Type 0
IsBad field.Program d = get (codes "program") d ≡ None
IsBad f d = (t : Forest) × HasProgram d (Ok t) × HasRuns t × (read_script d ≡ Err f)

-- the value has no program, for this error of its tree
abbrev pub IsTreeFault : TreeError → Data → Type 0
IsTreeFault tree.Syntax d = HasProgram d (Err too_deep)
IsTreeFault (tree.UnknownNode kind) d = HasProgram d (Err (unknown_node (string_bytes kind)))
IsTreeFault (tree.BadField kind name) d = HasProgram d (Err (bad_field kind.now name.now))
IsTreeFault tree.NumberOutOfRange d = HasProgram d (Err out_of_range)
IsTreeFault tree.OutOfMemory d = Unit {0}

-- the least place of a node of the value's program that is not of the core
abbrev pub IsOutside : (place : ℕ) → Data → Type 0
IsOutside place d = (t : Forest) × HasProgram d (Ok t) × IsWithinLimits t × IsWellFormed t × (first_outside t ≡ Some place)

-- the cause of each error, of a value; memory may be short at any time
abbrev pub Fails : RunError → Data → Type 0
Fails (Tree e) d = IsTreeFault e d
Fails (Refused e) d = (t : Forest) × HasProgram d (Ok t) × IsCause e t
Fails (NotCore place) d = IsOutside place d
Fails (Bad f) d = IsBad f d
Fails OutOfMemory d = Unit {0}

-- the fault of a script, as one of the whole
abbrev pub script_fault : ScriptError → RunError
script_fault (script.Bad f) = Bad f
script_fault script.OutOfMemory = OutOfMemory

-- and of bytes
abbrev pub IsCauseOf : RunError → List ℕ → Type 0
IsCauseOf (Tree tree.Syntax) bytes = IsNoJson bytes
IsCauseOf (Tree tree.OutOfMemory) bytes = Unit {0}
IsCauseOf (Tree e) bytes = (d : Data) × IsJson bytes d × Fails (Tree e) d
IsCauseOf (Refused e) bytes = (d : Data) × IsJson bytes d × Fails (Refused e) d
IsCauseOf (NotCore place) bytes = (d : Data) × IsJson bytes d × Fails (NotCore place) d
IsCauseOf (Bad f) bytes = (d : Data) × IsJson bytes d × Fails (Bad f) d
IsCauseOf OutOfMemory bytes = Unit {0}
