use Rattle.min_traverse.specs.Edits.{no_edit, one_edit}
use Rattle.min_traverse.proofs.Moving.{edits_trans}
use Rattle.min_traverse.proofs.laws.edits_compose.Goals as goal

pub returns : goal.returns
returns g c = record { none = λ o t. no_edit; one = λ o t u e. one_edit e no_edit; both = λ o t u v e f. edits_trans e f }
