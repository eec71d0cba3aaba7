use Rattle.std.proofs.Common.{◌≡◌, ◌++◌, map, drop}
use Rattle.scope_table.specs.Kept.{told}
use Rattle.scope_table.specs.Reading.{pure_from}
use Rattle.scope_table.proofs.reading.pure_among.Given as goal

abbrev pub invariant-loop-i : goal.invariant-loop-i
invariant-loop-i l = map (λ s. s.0) l.found.items ++ pure_from l.i (map told (drop l.i l.symbols)) ≡ pure_from 0 (map told l.symbols)
