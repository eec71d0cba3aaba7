use Rattle.js_meaning_near.proofs.Instances.{behind_jump_leaves}
use Rattle.js_meaning_near.proofs.examples.what_stands_behind_a_jump_leaves.Goals as goal

pub returns : goal.returns
returns c = λ n k a b d j e y. behind_jump_leaves n k a b d j e y
