use Rattle.js_meaning_near.proofs.Unused.{call_wasted}
use Rattle.js_meaning_near.proofs.laws.a_silent_call_wastes_its_arguments.Goals as goal

pub returns : goal.returns
returns c = λ st x pure n m i j es ps q d. call_wasted st x pure n m i j es ps q d
