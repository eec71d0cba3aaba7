use Rattle.std.proofs.Common.{◌<◌, ℕ}
use Rattle.scope_match.specs.Matches.{SameSymbol}
use Rattle.scope_match.proofs.symbol.same_symbols.Given as goal

abbrev pub invariant-loop-i : goal.invariant-loop-i
invariant-loop-i l = (n : ℕ) → n < l.i → SameSymbol l.marks l.scoping l.table n
