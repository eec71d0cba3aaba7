use Rattle.rules.proofs.Told.Shut.{leaving_keeps_calls, leaving_tells_only}
use Rattle.rules.proofs.told_laws.edits.what_leaves_a_list_leaves_calls.Goals as goal

pub returns : goal.returns
returns c = record { calls = leaving_keeps_calls; told = λ a x leaves front taken acts fits s h. leaving_tells_only s a x leaves front taken acts fits h }
