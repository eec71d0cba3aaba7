use Rattle.std.proofs.Common.{ap, arith}
use Rattle.js_syntax.specs.Node.{forest_of}
use Rattle.js_tree.specs.Count.{node_count}
use Rattle.min_driver.proofs.Leaves.{cleared_nodes}
use Rattle.min_driver.proofs.minify.clear.Goals as goal

pub mark-requires : goal.mark-requires
mark-requires c = record { small = omega (arith, ap node_count c.in_ok-cleared.ensures.left, cleared_nodes (forest_of c.args.program), c.requires.small) }
