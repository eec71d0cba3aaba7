use Rattle.steps.proofs.Allowed.TriedExpressions.{finally_comes, handled_finally_comes, branch_finally_comes, block_comes, trying_stays, handler_with_variable_stays, loop_finally_stays}
use Rattle.steps.proofs.allowed_laws.rows.a_try_around_nothing_comes_to_a_block.Goals as goal

pub returns : goal.returns
returns c = record {
  finalizer = finally_comes;
  handled = handled_finally_comes;
  branch = branch_finally_comes;
  alone = block_comes;
  tries = trying_stays;
  variable = handler_with_variable_stays;
  loops = loop_finally_stays;
}
