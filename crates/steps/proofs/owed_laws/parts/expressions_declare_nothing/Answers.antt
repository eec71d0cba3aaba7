use Rattle.steps.proofs.Owed.Expressions.{expression_declares_nothing}
use Rattle.steps.proofs.owed_laws.parts.expressions_declare_nothing.Goals as goal

pub returns : goal.returns
returns c = expression_declares_nothing
