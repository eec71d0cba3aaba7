use Rattle.std.proofs.Common.{refl}
use Rattle.js_tree.proofs.node.Node.set_id.Goals as goal

pub returns-clause-id : goal.returns-clause-id
returns-clause-id c = refl
