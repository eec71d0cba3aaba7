use Rattle.steps.proofs.Allowed.TriedCalls.{module_left}
use Rattle.steps.proofs.allowed_laws.silent_calls.a_module_without_its_call_runs_as_it_did.Goals as goal

pub returns : goal.returns
returns c = module_left
