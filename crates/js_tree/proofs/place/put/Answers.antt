use Rattle.std.proofs.Common.{refl}
use Rattle.js_tree.proofs.place.put.Goals as goal

pub returns : goal.returns
returns c = refl
