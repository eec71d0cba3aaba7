use Rattle.js_tree.specs.Weight.{size_of}
use Rattle.min_expressions.proofs.bare.+matters.Given as goal

abbrev pub decreases-matters : goal.decreases-matters
decreases-matters l = size_of l.node.now.below
