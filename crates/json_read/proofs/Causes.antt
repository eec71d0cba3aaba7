-- From a JSON value to the bytes that it was read from.
use Rattle.std.proofs.Common.{◌≡◌, ◌≢◌, ◌≤◌, ℕ, List, Some, Result, Ok, Err, IfErr, IsUtf8, arith}
use Rattle.serde_json.specs.Data.{Data, depth}
use Rattle.serde_json.specs.Read.{read, max_depth}
use Rattle.js_syntax.specs.Class.{root}
use Rattle.js_syntax.specs.Node.{Tree, forest_of}
use Rattle.json_text.specs.Fault.{too_deep, untyped}
use Rattle.json_text.specs.Reading.{read_program}
use Rattle.json_text.specs.Answer.{Gives, IsCauseOf}
use Rattle.json_text.specs.declared.error.TreeError.{TreeError}
use Rattle.json_text.specs.declared.error.TreeError.TheVariants as error
use Rattle.json_text.proofs.Levels.{node_ends}
use Rattle.json_text.proofs.Plain.{untyped_is_no_level}

has_levels : (d : Data) → depth d ≤ max_depth → read_program d ≢ Err too_deep
has_levels d shallow = node_ends 128 root untyped d (omega arith) untyped_is_no_level

pub causes : (r : Result Tree TreeError) (bytes : List ℕ) (d : Data) → IsUtf8 bytes × (read bytes ≡ Some d) → depth d ≤ max_depth → Gives forest_of r (read_program d) → IfErr r (λ e. IsCauseOf e bytes)
causes (Ok p) bytes d told shallow h = tt
causes (Err error.Syntax) bytes d told shallow h = absurd (has_levels d shallow h)
causes (Err (error.UnknownNode kind)) bytes d told shallow h = (told.0, (d, told.1, h))
causes (Err (error.BadField kind field)) bytes d told shallow h = (told.0, (d, told.1, h))
causes (Err error.NumberOutOfRange) bytes d told shallow h = (told.0, (d, told.1, h))
causes (Err error.OutOfMemory) bytes d told shallow h = tt
