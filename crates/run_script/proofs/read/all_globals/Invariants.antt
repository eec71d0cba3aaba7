use Rattle.std.proofs.Common.{◌≡◌, drop}
use Rattle.serde_json.specs.View.{items_view}
use Rattle.run_script.specs.Script.{all_in, global_in}
use Rattle.run_script.specs.Held.{globals_of}
use Rattle.run_script.proofs.Lists.{after}
use Rattle.run_script.proofs.read.all_globals.Given as goal

abbrev pub invariant-loop-value : goal.invariant-loop-value
invariant-loop-value l = all_in global_in (items_view l.values) ≡ after (globals_of l.pairs.items) (all_in global_in (items_view (drop l.value-index l.values)))
