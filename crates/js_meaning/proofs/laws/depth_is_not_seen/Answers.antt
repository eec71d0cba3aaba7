use Rattle.js_meaning.proofs.Depth.{depth_suffices}
use Rattle.js_meaning.proofs.laws.depth_is_not_seen.Goals as goal

pub returns : goal.returns
returns c = depth_suffices
