use Rattle.std.proofs.Common.{◌≡◌, drop}
use Rattle.serde_json.specs.View.{items_view}
use Rattle.run_world.specs.World.{moves_of}
use Rattle.run_script.specs.Script.{all_in, move_in}
use Rattle.run_script.proofs.Lists.{after}
use Rattle.run_script.proofs.moves.all_moves.Given as goal

abbrev pub invariant-loop-value : goal.invariant-loop-value
invariant-loop-value l = all_in move_in (items_view l.values) ≡ after (moves_of l.all.items) (all_in move_in (items_view (drop l.value-index l.values)))
