use Rattle.std.proofs.Common.{◌≡◌, map, take}
use Rattle.scope_rules.specs.Table.{symbols_of}
use Rattle.scope_table.specs.Kept.{kept_from}
use Rattle.scope_table.proofs.symbol.symbols_with.Given as goal

abbrev pub invariant-loop-i : goal.invariant-loop-i
invariant-loop-i l = l.symbols.items ≡ kept_from l.names l.names (map (λ r. r.symbol) (take l.i l.references)) 0 (symbols_of l.names)
