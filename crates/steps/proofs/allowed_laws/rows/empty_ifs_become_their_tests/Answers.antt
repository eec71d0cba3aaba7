use Rattle.steps.proofs.Allowed.TriedExpressions.{empty_if_comes, empty_branches_come, empty_if_in_a_branch_comes, full_alternate_stays, full_consequent_stays, if_on_a_function_stays}
use Rattle.steps.proofs.allowed_laws.rows.empty_ifs_become_their_tests.Goals as goal

pub returns : goal.returns
returns c = record {
  one_branch = empty_if_comes;
  both_branches = empty_branches_come;
  branch = empty_if_in_a_branch_comes;
  full = full_alternate_stays;
  only_alternate = full_consequent_stays;
  function = if_on_a_function_stays;
}
