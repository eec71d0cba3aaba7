use Rattle.std.proofs.Common.{refl}
use Rattle.min_traverse.proofs.Slots.{in_loops, in_exports}
use Rattle.min_traverse.proofs.laws.heads_are_no_statements.Goals as goal

pub returns : goal.returns
returns c = record { loops = in_loops; exports = in_exports; own = λ how. refl; variables = λ how. refl }
