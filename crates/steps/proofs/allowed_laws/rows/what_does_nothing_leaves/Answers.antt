use Rattle.steps.proofs.Allowed.TriedExpressions.{idle_while_leaves, idle_for_leaves, idle_label_leaves, idle_try_leaves, idle_finally_leaves, while_of_variable_stays, turning_stays, may_turn_stays, test_at_end_stays, finally_stays, tried_call_stays, idle_branch_stays, label_left_at_once_leaves, block_left_at_once_leaves, labels_left_at_once_leave, other_label_stays, late_jump_stays, inner_jump_stays, finally_behind_jump_stays, jump_with_variable_stays}
use Rattle.steps.proofs.allowed_laws.rows.what_does_nothing_leaves.Goals as goal

pub returns : goal.returns
returns c = record {
  while_loop = idle_while_leaves;
  for_loop = idle_for_leaves;
  labeled = idle_label_leaves;
  tried = idle_try_leaves;
  finally = idle_finally_leaves;
  variable = while_of_variable_stays;
  turns = turning_stays;
  may_turn = may_turn_stays;
  at_end = test_at_end_stays;
  ends = finally_stays;
  tries = tried_call_stays;
  branch = idle_branch_stays;
  jumps = label_left_at_once_leaves;
  jumps_in_block = block_left_at_once_leaves;
  jumps_out = labels_left_at_once_leave;
  jumps_elsewhere = other_label_stays;
  jumps_late = late_jump_stays;
  jumps_inside = inner_jump_stays;
  jumps_finally = finally_behind_jump_stays;
  jump_with_var = jump_with_variable_stays;
}
