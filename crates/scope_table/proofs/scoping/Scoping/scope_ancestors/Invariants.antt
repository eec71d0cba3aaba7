use Rattle.std.proofs.Common.{map, length}
use Rattle.scope_table.specs.Reading.{ancestors}
use Rattle.scope_table.proofs.Read.{AreLeft}
use Rattle.scope_table.proofs.scoping.Scoping.scope_ancestors.Given as goal

abbrev pub invariant-loop-i : goal.invariant-loop-i
invariant-loop-i l = AreLeft l.self l._i (length l.self.scopes) l.next (map (λ s. s.0) l.above.items) (ancestors l.self l.fn.scope.0)
