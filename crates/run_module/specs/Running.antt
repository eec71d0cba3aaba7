-- Which run bytes ask for, and which text it has.
use Rattle.std.specs.Prelude.{◌≡◌, ℕ, List, Some, true, Result, Ok, codes, IsUtf8}
use Rattle.serde_json.specs.Data.{Data}
use Rattle.serde_json.specs.Find.{get}
use Rattle.serde_json.specs.Read.{read}
use Rattle.js_syntax.specs.Node.{Forest}
use Rattle.js_meaning.specs.Run.{run}
use Rattle.json_text.specs.Fault.{Fault}
use Rattle.json_text.specs.Reading.{read_program}
use Rattle.form_rules.specs.Form.{IsWellFormed}
use Rattle.min_driver.specs.Limit.{IsWithinLimits}
-- a module whose nodes are all of the core of the language, for which runs are defined
use Rattle.steps.specs.Fit.Sensible.{is_core_module}
use Rattle.run_script.specs.Script.{Input, script_of, read_script}
use Rattle.run_text.specs.Text.{text_of}

-- the bytes are UTF-8 and JSON, which is read as this value
abbrev pub IsJson : List ℕ → Data → Type 0
IsJson bytes d = IsUtf8 bytes × (read bytes ≡ Some d)

-- the field `program` of the value is read so
abbrev pub HasProgram : Data → Result Forest Fault → Type 0
HasProgram d outcome = (m : Data) × (get (codes "program") d ≡ Some m) × (read_program m ≡ outcome)

-- a program that runs are defined for
pub record HasRuns (t : Forest) : Type 0 where
  pub limits : IsWithinLimits t
  pub form : IsWellFormed t
  pub core : is_core_module t ≡ true

-- The text of the run that the value `{"n":N,"program":TREE,"script":SCRIPT}` asks for: the run of that tree, over that script,
-- with at most that many entries.
pub record IsRunOf (d : Data) (text : List ℕ) : Type 0 where
  pub program : Forest
  pub input : Input
  pub read : HasProgram d (Ok program)
  pub runs : HasRuns program
  pub asked : read_script d ≡ Ok input
  pub is : text ≡ text_of (run program (script_of input) input.bound)
