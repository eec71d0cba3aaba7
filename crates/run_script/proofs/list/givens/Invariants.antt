use Rattle.std.proofs.Common.{◌≡◌, drop}
use Rattle.serde_json.specs.View.{items_view}
use Rattle.run_world.specs.World.{givens_of}
use Rattle.run_script.specs.Script.{all_in, given_in}
use Rattle.run_script.proofs.Lists.{after}
use Rattle.run_script.proofs.list.givens.Given as goal

abbrev pub invariant-loop-value : goal.invariant-loop-value
invariant-loop-value l = all_in given_in (items_view l.values) ≡ after (givens_of l.all.items) (all_in given_in (items_view (drop l.value-index l.values)))
