use Rattle.steps.proofs.Allowed.TriedCalls.{argument_stays, acting_stays, calling_stays, assigned_stays, hidden_stays, exported_stays}
use Rattle.steps.proofs.allowed_laws.silent_calls.other_calls_stay.Goals as goal

pub returns : goal.returns
returns c = record { argument = argument_stays; acts = acting_stays; calls = calling_stays; assigned = assigned_stays; hidden = hidden_stays; exported = exported_stays }
