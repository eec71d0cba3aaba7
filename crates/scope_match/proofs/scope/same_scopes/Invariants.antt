use Rattle.std.proofs.Common.{◌<◌, ℕ}
use Rattle.scope_match.specs.Matches.{SameScope}
use Rattle.scope_match.proofs.scope.same_scopes.Given as goal

abbrev pub invariant-loop-i : goal.invariant-loop-i
invariant-loop-i l = (n : ℕ) → n < l.i → SameScope l.marks l.scoping l.table n
