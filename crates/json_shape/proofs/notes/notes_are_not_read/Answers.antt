use Rattle.json_shape.proofs.Same.{readable}
use Rattle.json_shape.proofs.notes.notes_are_not_read.Goals as goal

pub returns : goal.returns
returns c = λ t u same r. readable t u same r
