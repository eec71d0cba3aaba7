-- How it goes on from a move.
use Rattle.std.specs.Prelude.{Bool, List, Option, Some, None}
use Rattle.js_meaning.specs.Value as meant_value
use Rattle.js_meaning.specs.Trace as meant
use Rattle.js_meaning.specs.Trace.{Ending}
use Rattle.js_meaning.specs.State.{M, stop}
use Rattle.js_meaning.specs.Host.{Enter, play}
use Rattle.run_value.specs.declared.value.Value.{Value}
use Rattle.run_value.specs.View.{value_of}
use Rattle.run_world.specs.declared.world.Next.{Next}
use Rattle.run_world.specs.World.{goes}

-- the host's answer, or it named what it hasn't seen
abbrev pub if_answer : Option Value → (meant_value.Value → M) → M
if_answer None k = stop Ending.host_stopped
if_answer (Some v) k = k (value_of v)

-- how it goes on from a move, or the others are made next
abbrev pub made : Enter → Bool → List meant.Move → Option Next → M
made E awaited ms None = play E awaited ms
made E awaited ms (Some n) = goes E n
