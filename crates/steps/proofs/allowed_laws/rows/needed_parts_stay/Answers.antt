use Rattle.steps.proofs.Allowed.TriedExpressions.{called_member_stays_behind, acting_parts_all_stay}
use Rattle.steps.proofs.allowed_laws.rows.needed_parts_stay.Goals as goal

pub returns : goal.returns
returns c = record { called_member = called_member_stays_behind; acting = acting_parts_all_stay }
