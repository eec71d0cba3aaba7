use Rattle.steps.proofs.Allowed.TriedExpressions.{empty_alternate_goes, chained_alternate_goes, alternate_of_branch_stays, alternate_of_body_stays, full_alternate_of_if_stays}
use Rattle.steps.proofs.allowed_laws.rows.empty_alternates_go.Goals as goal

pub returns : goal.returns
returns c = record {
  item = empty_alternate_goes;
  alternate = chained_alternate_goes;
  consequent = alternate_of_branch_stays;
  body = alternate_of_body_stays;
  full = full_alternate_of_if_stays;
}
