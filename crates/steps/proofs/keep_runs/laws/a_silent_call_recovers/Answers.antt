use Rattle.steps.proofs.Owed.SilentCall.{silent_call_left}
use Rattle.steps.proofs.keep_runs.laws.a_silent_call_recovers.Goals as goal

pub returns : goal.returns
returns c = record {
  kept = λ n m a t s h. (silent_call_left n m a t s h).0;
  recovered = λ n m a t s h. (silent_call_left n m a t s h).1;
}
