use Rattle.steps.proofs.Silent.{marked_idle}
use Rattle.steps.proofs.laws.marked_silence_may_not_act.Goals as goal

pub returns : goal.returns
returns c = marked_idle
