use Rattle.steps.proofs.Owed.Refused.{evaluated_stays, global_stays, sloppy_stays}
use Rattle.steps.proofs.owed_laws.refusals.what_others_may_use_stays.Goals as goal

pub returns : goal.returns
returns c = record { evaluated = evaluated_stays; global = global_stays; sloppy = sloppy_stays }
