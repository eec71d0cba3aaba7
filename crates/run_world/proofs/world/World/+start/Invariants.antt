use Rattle.std.proofs.Common.{◌+◌, ◌*◌}
use Rattle.js_syntax.specs.Node.{row}
use Rattle.run_world.specs.Fields.{fields}
use Rattle.run_world.proofs.world.World.+start.Given as goal

abbrev pub decreases-start_node : goal.decreases-start_node
decreases-start_node l = 3 * (1 + fields l.node.now.below)

abbrev pub decreases-start_default : goal.decreases-start_default
decreases-start_default l = 3 * fields (row l.nodes.now) + 2

abbrev pub decreases-start : goal.decreases-start
decreases-start l = 3 * fields (row l.nodes.now) + 1
