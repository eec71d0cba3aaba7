use Rattle.js_tree.specs.Weight.{size_of}
use Rattle.min_expressions.proofs.may_change.+may_change.Given as goal

abbrev pub decreases-may_change : goal.decreases-may_change
decreases-may_change l = size_of l.node.now.below
