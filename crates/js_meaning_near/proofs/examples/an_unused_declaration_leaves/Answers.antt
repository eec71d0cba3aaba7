use Rattle.js_meaning_near.proofs.Instances.{unused_declaration_leaves}
use Rattle.js_meaning_near.proofs.examples.an_unused_declaration_leaves.Goals as goal

pub returns : goal.returns
returns c = unused_declaration_leaves
