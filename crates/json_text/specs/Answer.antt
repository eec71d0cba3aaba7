-- What a reader answers for bytes.
use Rattle.std.specs.Prelude.{◌≡◌, ℕ, List, Some, None, Result, Ok, Err, string_bytes, IsUtf8}
use Rattle.serde_json.specs.Data.{Data}
use Rattle.serde_json.specs.Read.{read}
use Rattle.js_syntax.specs.Node.{Forest}
use Rattle.json_text.specs.Fault.{Fault, too_deep, unknown_node, bad_field, out_of_range}
use Rattle.json_text.specs.Reading.{read_program}
use Rattle.json_text.specs.declared.error.TreeError.{TreeError}
use Rattle.json_text.specs.declared.error.TreeError.TheVariants as error

-- the bytes are UTF-8 and JSON, which is read as this
abbrev pub IsReadAs : List ℕ → Result Forest Fault → Type 0
IsReadAs bytes outcome = IsUtf8 bytes × ((d : Data) × (read bytes ≡ Some d) × (read_program d ≡ outcome))

-- the bytes are no UTF-8, or no JSON within its limit of nesting
abbrev pub IsNoJson : List ℕ → Type 0
IsNoJson bytes = IsUtf8 bytes → read bytes ≡ None

-- the cause of each error; memory may be short at any time
abbrev pub IsCauseOf : TreeError → List ℕ → Type 0
IsCauseOf error.Syntax bytes = IsNoJson bytes
IsCauseOf (error.UnknownNode kind) bytes = IsReadAs bytes (Err (unknown_node (string_bytes kind)))
IsCauseOf (error.BadField kind field) bytes = IsReadAs bytes (Err (bad_field kind.now field.now))
IsCauseOf error.NumberOutOfRange bytes = IsReadAs bytes (Err out_of_range)
IsCauseOf error.OutOfMemory bytes = Unit {0}

-- ---- for clauses of parts of a reader

-- this is the error for what is read so
abbrev pub Fails : {Y : Type 0} → TreeError → Result Y Fault → Type 0
Fails error.Syntax outcome = outcome ≡ Err too_deep
Fails (error.UnknownNode kind) outcome = outcome ≡ Err (unknown_node (string_bytes kind))
Fails (error.BadField kind field) outcome = outcome ≡ Err (bad_field kind.now field.now)
Fails error.NumberOutOfRange outcome = outcome ≡ Err out_of_range
Fails error.OutOfMemory outcome = Unit {0}

-- what a function answers, seen by view, is what is read
abbrev pub Gives : {X Y : Type 0} → (X → Y) → Result X TreeError → Result Y Fault → Type 0
Gives view (Ok x) outcome = outcome ≡ Ok (view x)
Gives view (Err e) outcome = Fails e outcome
