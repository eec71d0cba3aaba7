use Rattle.steps.proofs.Allowed.Composing.{tree_edits_are_edits}
use Rattle.steps_keep_text.proofs.StillRead.{left_exact, left_readable, left_signable}
use Rattle.steps_keep_text.proofs.readable.edits_leave_readable_trees.Goals as goal

pub returns : goal.returns
returns c = record {
  readable_tree = λ t u edits. left_readable t u (tree_edits_are_edits edits);
  signable_tree = λ t u edits. left_signable t u (tree_edits_are_edits edits);
  exact_tree = λ t u edits. left_exact t u (tree_edits_are_edits edits);
  readable = left_readable;
  signable = left_signable;
  exact = left_exact;
}
