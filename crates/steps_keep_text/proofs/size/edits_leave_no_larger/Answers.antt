use Rattle.js_tree.specs.Count.{node_count, levels}
use Rattle.steps.proofs.Allowed.Composing.{tree_edits_are_edits}
use Rattle.steps_keep_text.proofs.Along.{edits_shed}
use Rattle.steps_keep_text.proofs.Smaller.{nodes_shed, levels_shed}
use Rattle.steps_keep_text.proofs.size.edits_leave_no_larger.Goals as goal

pub returns : goal.returns
returns c = record {
  nodes_of_tree = λ t u edits. edits_shed node_count nodes_shed t u (tree_edits_are_edits edits);
  levels_of_tree = λ t u edits. edits_shed levels levels_shed t u (tree_edits_are_edits edits);
  nodes = edits_shed node_count nodes_shed;
  levels = edits_shed levels levels_shed;
}
