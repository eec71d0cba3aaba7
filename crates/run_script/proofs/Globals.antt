-- Globals in memory, as runs and as scripts have them.
use Rattle.std.proofs.Common.{◌≡◌, ℕ, List, [], ◌∷◌, String, refl}
use Rattle.std.specs.Global.{Global as Allocator}
use Rattle.std.specs.declared.rc.Rc.{Rc}
use Rattle.js_meaning.specs.Value.{Text}
use Rattle.run_value.specs.declared.plain.Plain.{Plain}
use Rattle.run_world.specs.declared.world.Globals.{Globals}
use Rattle.run_world.specs.declared.world.Moves.{Moves}
use Rattle.run_world.specs.Script.{plain_in, script_of}
use Rattle.run_world.specs.World.{moves_of}
use Rattle.run_script.specs.Script.{value_named, an_input}
use Rattle.run_script.specs.Script as meant
use Rattle.run_script.specs.Held.{globals_of}

same_at : (gs : List (Rc (String Allocator) Allocator × Plain)) (x : Text) → plain_in gs x ≡ value_named (globals_of gs) x
same_at [] x = refl
same_at (g ∷ gs) x = rw (same_at gs x) refl

-- the first of a name counts in both
same_globals : (gs : List (Rc (String Allocator) Allocator × Plain)) → plain_in gs ≡ value_named (globals_of gs)
same_globals gs = λ t x. same_at gs x t

-- a script of these globals and moves is the one that was meant
pub same_script : (gs : Globals) (ms : Moves) (n : ℕ) → script_of (record { globals = gs; moves = ms }) ≡ meant.script_of (an_input (globals_of gs.pairs.items) (moves_of ms.all.items) n)
same_script gs ms n = λ t. record { globals = same_globals gs.pairs.items t; moves = moves_of ms.all.items }
