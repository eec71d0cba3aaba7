use Rattle.std.proofs.Common.{refl}
use Rattle.run_world.specs.World.{moves_of}
use Rattle.run_script.specs.Script.{an_input, read_script}
use Rattle.run_script.specs.Held.{globals_of}
use Rattle.run_script.proofs.Globals.{same_script}
use Rattle.run_script.proofs.read.read_script.Goals as goal

pub returns-clause-ok : goal.returns-clause-ok
unfolding read_script
returns-clause-ok c =
    let globals = rw c.in-Some-2.is at c.in_ok-globals.ensures in
    let moves = rw c.in-Some-3.is at c.in_ok-moves.ensures in
    (an_input (globals_of c.in-Some-2.globals.pairs.items) (moves_of c.in-Some-3.moves.all.items) c.in-Some-bound_at.bound, rw (c.in-Some.ensures, globals, moves, c.in-Some-bound_at.ensures) refl, same_script c.in-Some-2.globals c.in-Some-3.moves c.in-Some-bound_at.bound, refl)
