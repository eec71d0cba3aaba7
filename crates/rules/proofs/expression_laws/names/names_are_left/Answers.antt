use Rattle.rules.proofs.Expressions.LeftNames.{names_edits}
use Rattle.rules.proofs.Expressions.NoNames.{settled_names, settled_without_names}
use Rattle.rules.proofs.expression_laws.names.names_are_left.Goals as goal

pub returns : goal.returns
returns c = record { edits = names_edits; settled = settled_names; unsettled = settled_without_names }
