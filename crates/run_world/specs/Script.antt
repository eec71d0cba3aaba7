-- Scripts in memory as runs are given them.
use Rattle.std.specs.Prelude.{List, [], ◌∷◌, Option, Some, None, String, string_bytes, if◌then◌else◌}
use Rattle.std.specs.Str.{bytes_eq}
use Rattle.std.specs.Global.{Global}
use Rattle.std.specs.declared.rc.Rc.{Rc}
use Rattle.js_meaning.specs.Value as meant_value
use Rattle.js_meaning.specs.Value.{Text}
use Rattle.js_meaning.specs.Trace as meant
use Rattle.run_value.specs.declared.plain.Plain.{Plain}
use Rattle.run_value.specs.Plain.{plain_of}
use Rattle.run_world.specs.declared.world.Script.{Script}
use Rattle.run_world.specs.World.{moves_of}

-- the first of a name counts
abbrev pub plain_in : List (Rc (String Global) Global × Plain) → Text → Option meant_value.Plain
plain_in [] x = None
plain_in (g ∷ gs) x = if bytes_eq x (string_bytes g.0.value) then Some (plain_of g.1) else plain_in gs x

abbrev pub script_of : Script → meant.Script
script_of s = record { globals = plain_in s.globals.pairs.items; moves = moves_of s.moves.all.items }
