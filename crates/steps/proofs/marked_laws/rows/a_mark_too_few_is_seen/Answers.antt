use Rattle.std.proofs.Common.{refl}
use Rattle.steps.proofs.Marked.Tried.{one_mark_too_few}
use Rattle.steps.proofs.marked_laws.rows.a_mark_too_few_is_seen.Goals as goal

pub returns : goal.returns
returns c = record { before = refl; marked = refl; too_few = refl; unkept = one_mark_too_few }
