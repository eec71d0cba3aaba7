use Rattle.steps.proofs.Owed.ByParts.{by_parts}
use Rattle.steps.proofs.owed_laws.parts.expressions_may_be_rebuilt.Goals as goal

pub returns : goal.returns
returns c = by_parts
