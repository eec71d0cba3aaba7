use Rattle.min_traverse.proofs.Slots.{not_both}
use Rattle.min_traverse.proofs.laws.expressions_are_no_statements.Goals as goal

pub returns : goal.returns
returns c = not_both
