-- What nodes are asked, and what costs an entry, as the definitions have it.
use Rattle.js_syntax.specs.Node.{row}
use Rattle.js_meaning.specs.Node as meant
use Rattle.js_meaning.specs.Host as host
use Rattle.run_value.specs.View.{value_of}
use Rattle.run_world.specs.World.{values_of, call_of}
use Rattle.run_plan.specs.declared.ask.Wanted.{Wanted}
use Rattle.run_plan.specs.declared.ask.Wanted.TheVariants.{Itself, ToCall, ForTypeof}
use Rattle.run_plan.specs.declared.ask.Ask.{Ask}
use Rattle.run_plan.specs.declared.ask.Ask.TheVariants.{Run, Value, Place, Take, TakeAll, Declares, Collect, Entry, Matches}
use Rattle.run_plan.specs.declared.plan.Loop.{Loop}
use Rattle.run_plan.specs.declared.plan.Loop.TheVariants.{While, DoWhile, For}
use Rattle.run_plan.specs.declared.plan.Task.{Task}
use Rattle.run_plan.specs.declared.plan.Task.TheVariants.{Body, Turn, CalledBack}

abbrev pub wanted_of : Wanted → meant.Wanted
wanted_of Itself = meant.itself
wanted_of ToCall = meant.to_call
wanted_of ForTypeof = meant.for_typeof

abbrev pub ask_of : Ask → meant.Ask
ask_of (Run labels) = meant.run labels
ask_of (Value w) = meant.value (wanted_of w)
ask_of Place = meant.place
ask_of (Take v) = meant.take (value_of v)
ask_of (TakeAll vs) = meant.take_all (values_of vs.items)
ask_of (Declares how) = meant.declares how
ask_of Collect = meant.collect
ask_of Entry = meant.entry
ask_of (Matches v) = meant.matches (value_of v)

abbrev pub loop_of : Loop → host.Loop
loop_of While = host.while_loop
loop_of DoWhile = host.do_loop
loop_of For = host.for_loop

abbrev pub task_of : Task → host.Task
task_of (Body c) = host.body c.kind (row c.below.now) c.env (value_of c.this) (values_of c.arguments.items)
task_of (Turn l a labels env) = host.turn (loop_of l) a labels env
task_of (CalledBack awaited c) = call_of awaited c
