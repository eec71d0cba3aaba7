use Rattle.rules.proofs.DeadCode.BeginsTrue.{begins}
use Rattle.rules.proofs.dead_code.laws.a_new_context_is_true.Goals as goal

pub returns : goal.returns
returns c = begins
