use Rattle.steps.proofs.Marked.Leaving.{function_leaves}
use Rattle.steps.proofs.marked_laws.decisions.unused_functions_may_leave.Goals as goal

pub returns : goal.returns
returns c = λ s marked exported a pure n m x rest. function_leaves s marked exported a pure n m x rest
