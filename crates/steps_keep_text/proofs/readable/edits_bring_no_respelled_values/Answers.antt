use Rattle.steps.proofs.Allowed.Composing.{tree_edits_are_edits}
use Rattle.steps_keep_text.proofs.StillRead.{fewer_misnamed, fewer_negative, left_as_it_is}
use Rattle.steps_keep_text.proofs.readable.edits_bring_no_respelled_values.Goals as goal

pub returns : goal.returns
returns c = record {
  misnamed_tree = λ t u edits. fewer_misnamed t u (tree_edits_are_edits edits);
  negative_tree = λ t u edits. fewer_negative t u (tree_edits_are_edits edits);
  misnamed = fewer_misnamed;
  negative = fewer_negative;
  as_it_is = left_as_it_is;
}
