use Rattle.js_meaning_near.proofs.Instances.{unused_variable_leaves}
use Rattle.js_meaning_near.proofs.examples.an_unused_variable_leaves.Goals as goal

pub returns : goal.returns
returns c = unused_variable_leaves
