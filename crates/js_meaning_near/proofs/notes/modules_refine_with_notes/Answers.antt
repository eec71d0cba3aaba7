use Rattle.js_meaning_near.proofs.Near.{refines_with_notes}
use Rattle.js_meaning_near.proofs.notes.modules_refine_with_notes.Goals as goal

pub returns : goal.returns
returns c = λ n m a y. refines_with_notes n m a y
