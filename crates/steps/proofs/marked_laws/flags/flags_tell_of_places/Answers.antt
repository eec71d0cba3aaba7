use Rattle.steps.proofs.Marked.Telling.{told_at, stand_exposed}
use Rattle.steps.proofs.marked_laws.flags.flags_tell_of_places.Goals as goal

pub returns : goal.returns
returns c = record { told = λ a x s h. told_at s a x h; exposure = stand_exposed }
