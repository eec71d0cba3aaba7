use Rattle.js_meaning_near.proofs.Instances.{empty_leaves}
use Rattle.js_meaning_near.proofs.examples.an_empty_statement_leaves.Goals as goal

pub returns : goal.returns
returns c = empty_leaves
