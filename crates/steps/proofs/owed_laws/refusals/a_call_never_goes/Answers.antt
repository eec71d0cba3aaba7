use Rattle.steps.proofs.Owed.Refused.{call_stays, call_stays_behind}
use Rattle.steps.proofs.owed_laws.refusals.a_call_never_goes.Goals as goal

pub returns : goal.returns
returns c = record { alone = call_stays; behind = call_stays_behind }
