-- What a statement in a branch that isn't taken owes that leaves its list.
use Rattle.std.proofs.Common.{inr}
use Rattle.js_syntax.specs.Node.{Tree}
use Rattle.scope_laws.specs.Place.{Around}
use Rattle.steps.specs.Allowed.Untaken.{Untaken, never_taken}
use Rattle.steps.specs.Owed.Owed.{Leaving}
use Rattle.steps.proofs.Owed.Unreached.{never_running_owes}
use Rattle.steps.proofs.Owed.UntakenRuns.{untaken_is_local}

pub untaken_owes : (a : Around) (x : Tree) → Untaken a x → Leaving a x
untaken_owes a x (never_taken item is runs none) = never_running_owes a x item (inr is) runs none (λ states declares fits. untaken_is_local x states declares a item is fits)
