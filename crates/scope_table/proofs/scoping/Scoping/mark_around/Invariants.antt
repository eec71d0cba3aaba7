use Rattle.std.proofs.Common.{length}
use Rattle.scope_table.specs.Reading.{ancestors}
use Rattle.scope_table.specs.Refreshing.{marked}
use Rattle.scope_table.proofs.Flagged.{AreToMark}
use Rattle.scope_table.proofs.scoping.Scoping.mark_around.Given as goal

abbrev pub invariant-loop-i : goal.invariant-loop-i
invariant-loop-i l = AreToMark l.fn.self l.self l._i (length l.fn.self.scopes) l.next (marked (ancestors l.fn.self l.fn.scope) l.fn.self)
