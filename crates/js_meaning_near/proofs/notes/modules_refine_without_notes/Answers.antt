use Rattle.js_meaning_near.proofs.Near.{refines_without_notes}
use Rattle.js_meaning_near.proofs.notes.modules_refine_without_notes.Goals as goal

pub returns : goal.returns
returns c = λ n m a y. refines_without_notes n m a y
