use Rattle.std.proofs.Common.{◌<◌, ℕ}
use Rattle.scope_match.specs.Matches.{SameReference}
use Rattle.scope_match.proofs.reference.same_references.Given as goal

abbrev pub invariant-loop-i : goal.invariant-loop-i
invariant-loop-i l = (n : ℕ) → n < l.i → SameReference l.marks l.scoping l.table n
