use Rattle.js_meaning.proofs.Kept.{recovered_joined, refined_recovers, recovered_back}
use Rattle.js_meaning.proofs.laws.the_way_back_composes.Goals as goal

pub returns : goal.returns
returns c = record { composes = recovered_joined; refined = refined_recovers; back = recovered_back }
