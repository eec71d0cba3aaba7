-- What was read, where only its fault is wanted.
use Rattle.std.specs.Prelude.{Result, Ok, Err}
use Rattle.json_text.specs.declared.error.TreeError.{TreeError}

abbrev pub without_value : {A : Type 0} → Result A TreeError → Result (Unit {0}) TreeError
without_value (Ok x) = Ok tt
without_value (Err e) = Err e
