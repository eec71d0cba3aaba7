use Rattle.js_meaning_near.proofs.Near.{refines_with_other_notes}
use Rattle.js_meaning_near.proofs.notes.modules_with_other_notes_refine.Goals as goal

pub returns : goal.returns
returns c = λ n m i j a b y e. refines_with_other_notes n m i j a b y e
