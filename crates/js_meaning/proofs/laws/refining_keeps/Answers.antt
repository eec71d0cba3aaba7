use Rattle.js_meaning.proofs.Kept.{refined_kept, refined_back}
use Rattle.js_meaning.proofs.laws.refining_keeps.Goals as goal

pub returns : goal.returns
returns c = record { kept = refined_kept; back = refined_back }
