use Rattle.rules.proofs.Expressions.Walked.{settled_nodes}
use Rattle.rules.proofs.expression_laws.quiet.walks_see_what_is_settled.Goals as goal

pub returns : goal.returns
returns c = settled_nodes
