-- The fields of an input, and the first that is at fault.
use Rattle.std.specs.Prelude.{ℕ, List, Option, Some, None, Result, Ok, Err, codes}
use Rattle.run_script.specs.declared.fault.Field.{Field}
use Rattle.run_script.specs.declared.fault.Field.TheVariants.{Program, Script, Globals, Moves, Bound}

-- as the line of a refusal names them
abbrev pub field_name : Field → List ℕ
field_name Program = codes "program"
field_name Script = codes "script"
field_name Globals = codes "globals"
field_name Moves = codes "moves"
field_name Bound = codes "n"

-- first one, then what it leads to; the first fault stays
infixl 10 ◌>>=◌
abbrev pub ◌>>=◌ : {A B : Type 0} → Result A Field → (A → Result B Field) → Result B Field
(Ok x) >>= f = f x
(Err e) >>= f = Err e

abbrev pub or_fault : {A : Type 0} → Field → Option A → Result A Field
or_fault e None = Err e
or_fault e (Some x) = Ok x
