use Rattle.steps.proofs.Allowed.TriedExpressions.{acting_sides_stay, primitive_sides_stay}
use Rattle.steps.proofs.allowed_laws.rows.two_sides_become_a_sequence.Goals as goal

pub returns : goal.returns
returns c = record { compared = acting_sides_stay; primitive = primitive_sides_stay }
