use Rattle.js_tree.specs.Weight.{size_of}
use Rattle.min_expressions.proofs.may_change.+target_may_change.Given as goal

abbrev pub decreases-target_may_change : goal.decreases-target_may_change
decreases-target_may_change l = size_of l.target.now.below
