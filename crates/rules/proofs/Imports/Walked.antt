-- Where a walk sees node by node that no name of an import goes, none does.
use Rattle.std.proofs.Common.{subst}
use Rattle.js_syntax.specs.Node.{Forest}
use Rattle.min_context.specs.Place.{top}
use Rattle.rules.specs.DeadCode.Quiet.{EachNode}
use Rattle.rules.specs.DeadCode.Rules.{Facts}
use Rattle.rules.proofs.DeadCode.Walked.{there}
use Rattle.rules.specs.Imports.Quiet.{IsUsedAt, ImportsUsed}

pub imports_used : (f : Facts) (t : Forest) → EachNode (IsUsedAt f) top t → ImportsUsed f t
imports_used f t h = λ a x rest is. there (IsUsedAt f) top a x rest (subst (λ u. EachNode (IsUsedAt f) top u) is h)
