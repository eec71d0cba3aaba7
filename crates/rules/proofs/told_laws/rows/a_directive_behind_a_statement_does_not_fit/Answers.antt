use Rattle.std.proofs.Common.{refl}
use Rattle.rules.proofs.Told.Tried.{statement_leaves, does_not_fit}
use Rattle.rules.proofs.told_laws.rows.a_directive_behind_a_statement_does_not_fit.Goals as goal

pub returns : goal.returns
returns c = record { edit = statement_leaves; before = refl; left = refl; unfit = does_not_fit }
