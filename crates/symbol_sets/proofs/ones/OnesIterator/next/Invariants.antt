use Rattle.std.proofs.Common.{◌≡◌, ◌-◌, ◌<◌, ◌^◌, length}
use Rattle.symbol_sets.specs.Numbers.{numbers_past}
use Rattle.symbol_sets.proofs.ones.OnesIterator.next.Given as goal

-- what was to come before is what is to come from here on
abbrev pub invariant-loop-self : goal.invariant-loop-self
invariant-loop-self g l =
    let held = g.S.SymbolSet.held l.self-inside.set.now
    in record {
      rest : numbers_past l.self-inside.next held ≡ l.fn.self;
      end : l.self-inside.end ≡ length held;
      fits : l.self-inside.end < 2 ^ 32;
    }

abbrev pub decreases-loop-self : goal.decreases-loop-self
decreases-loop-self g l = l.self-inside.end - l.self-inside.next
