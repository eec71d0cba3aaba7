use Rattle.scope_counts.proofs.Tables.{marks_may_go}
use Rattle.steps.proofs.Marked.Tables.{pruned_exact}
use Rattle.steps.proofs.marked_laws.laws.marks_of_what_left_are_pruned.Goals as goal

pub returns : goal.returns
returns c = record { counted = λ t marked before now. marks_may_go marked before now t; exact = pruned_exact }
