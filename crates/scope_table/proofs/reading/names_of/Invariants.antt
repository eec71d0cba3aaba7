use Rattle.std.proofs.Common.{◌≡◌, map, take}
use Rattle.scope_table.specs.Kept.{told}
use Rattle.scope_table.proofs.reading.names_of.Given as goal

abbrev pub invariant-loop-symbol : goal.invariant-loop-symbol
invariant-loop-symbol l = map (λ s. s.now) l.names.items ≡ map (λ s. s.name) (map told (take l.symbol-index l.symbols))
