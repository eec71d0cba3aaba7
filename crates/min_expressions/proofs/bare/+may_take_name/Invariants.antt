use Rattle.js_tree.specs.Weight.{size_of}
use Rattle.min_expressions.proofs.bare.+may_take_name.Given as goal

abbrev pub decreases-may_take_name : goal.decreases-may_take_name
decreases-may_take_name l = size_of l.node.now.below
