use Rattle.std.proofs.Common.{◌≡◌, ◌+◌, ◌*◌, drop}
use Rattle.js_syntax.specs.Node.{row}
use Rattle.js_tree.specs.Weight.{size_of, tree_size}
use Rattle.js_effects.specs.Silence.{may_have_effects}
use Rattle.js_effects.proofs.silent.+silent.Given as goal

abbrev pub decreases-may_have_side_effects : goal.decreases-may_have_side_effects
decreases-may_have_side_effects l = 2 * tree_size l.node.now

abbrev pub decreases-any_has_effects : goal.decreases-any_has_effects
decreases-any_has_effects l = 2 * size_of (row l.children.now) + 1

abbrev pub invariant-any_has_effects-loop-child : goal.invariant-any_has_effects-loop-child
invariant-any_has_effects-loop-child l = may_have_effects l.bound l.around (row l.children) ≡ may_have_effects l.bound l.around (row (drop l.child-index l.children))
