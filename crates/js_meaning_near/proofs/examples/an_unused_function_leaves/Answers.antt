use Rattle.js_meaning_near.proofs.Instances.{unused_function_leaves}
use Rattle.js_meaning_near.proofs.examples.an_unused_function_leaves.Goals as goal

pub returns : goal.returns
returns c = unused_function_leaves
