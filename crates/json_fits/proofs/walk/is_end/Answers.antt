use Rattle.std.proofs.Common.{sym}
use Rattle.json_fits.proofs.Walking.{not_planned}
use Rattle.json_fits.proofs.walk.is_end.Goals as goal

pub returns-in-len1-up : goal.returns-in-len1-up
returns-in-len1-up c = sym (not_planned c.args.nodes.now c.in-len1-up.len_at_least)
