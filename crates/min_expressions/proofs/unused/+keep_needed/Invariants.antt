use Rattle.js_tree.specs.Weight.{size_of}
use Rattle.min_expressions.proofs.unused.+keep_needed.Given as goal

abbrev pub decreases-keep_needed : goal.decreases-keep_needed
decreases-keep_needed l = size_of l.node.now.below
