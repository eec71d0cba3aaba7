use Rattle.std.proofs.Common.{refl}
use Rattle.js_tree.proofs.node.Node.new.Goals as goal

pub returns : goal.returns
returns c = refl
