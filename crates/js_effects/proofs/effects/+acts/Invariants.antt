use Rattle.std.proofs.Common.{◌≡◌, ◌+◌, ◌*◌, drop}
use Rattle.js_syntax.specs.Node.{row}
use Rattle.js_tree.specs.Weight.{size_of, tree_size}
use Rattle.js_effects.specs.Answers.{answers}
use Rattle.js_effects.specs.Effects.{any_acts}
use Rattle.js_effects.proofs.effects.+acts.Given as goal

abbrev pub decreases-has_side_effects : goal.decreases-has_side_effects
decreases-has_side_effects g l = 3 * tree_size l.node.now

abbrev pub decreases-parts_act : goal.decreases-parts_act
decreases-parts_act g l = 3 * size_of l.node.now.below + 2

abbrev pub decreases-part_acts : goal.decreases-part_acts
decreases-part_acts g l = 3 * size_of l.node.now.below + 1

abbrev pub decreases-any_acts : goal.decreases-any_acts
decreases-any_acts g l = 3 * size_of (row l.children.now) + 1

abbrev pub invariant-any_acts-loop-child : goal.invariant-any_acts-loop-child
invariant-any_acts-loop-child g l =
    let A = answers (g.C.GlobalContext.names l.ctx) (g.C.MayHaveSideEffectsContext.effects l.ctx) in
    any_acts A (row l.children) ≡ any_acts A (row (drop l.child-index l.children))
