use Rattle.steps.proofs.Allowed.TriedExpressions.{idle_block_empties, idle_while_empties, idle_label_empties, idle_body_of_while_empties, acting_body_stays, body_with_variable_stays, block_of_try_stays, block_behind_label_stays}
use Rattle.steps.proofs.allowed_laws.rows.idle_bodies_become_empty.Goals as goal

pub returns : goal.returns
returns c = record {
  branch = idle_block_empties;
  while_loop = idle_while_empties;
  labeled = idle_label_empties;
  body = idle_body_of_while_empties;
  acting = acting_body_stays;
  variable = body_with_variable_stays;
  of_try = block_of_try_stays;
  behind_label = block_behind_label_stays;
}
