use Rattle.steps.proofs.Allowed.TriedExpressions.{one_acting_side_stays, used_comparison_stays, converting_sides_stay}
use Rattle.steps.proofs.allowed_laws.rows.other_sides_stay.Goals as goal

pub returns : goal.returns
returns c = record { one_side = one_acting_side_stays; used = used_comparison_stays; converted = converting_sides_stay }
