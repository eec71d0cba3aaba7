-- What holds node by node holds wherever an expression stands.
use Rattle.std.proofs.Common.{subst}
use Rattle.js_syntax.specs.Node.{Forest}
use Rattle.min_context.specs.Place.{top}
use Rattle.rules.specs.DeadCode.Quiet.{EachNode}
use Rattle.rules.proofs.DeadCode.Walked.{there}
use Rattle.rules.specs.Expressions.Settled.{IsSettledAt, IsSettled}

pub settled_nodes : (t : Forest) → EachNode IsSettledAt top t → IsSettled t
settled_nodes t h = record { each = λ a x rest is. there IsSettledAt top a x rest (subst (λ u. EachNode IsSettledAt top u) is h) }
