use Rattle.rules.proofs.DeadCode.Walked.{quiet_nodes}
use Rattle.rules.proofs.dead_code.quiet.walks_see_what_is_quiet.Goals as goal

pub returns : goal.returns
returns c = quiet_nodes
