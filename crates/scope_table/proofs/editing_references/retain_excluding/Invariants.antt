use Rattle.std.proofs.Common.{◌≡◌, ◌++◌, map, take, drop}
use Rattle.symbol_sets.specs.Numbers.{has}
use Rattle.scope_table.specs.Kept.{kept_without}
use Rattle.scope_table.proofs.editing_references.retain_excluding.Given as goal

abbrev pub invariant-loop-symbol : goal.invariant-loop-symbol
invariant-loop-symbol g l = l.symbols ≡ map (kept_without (has (g.S.SymbolSet.held l.excluded))) (take l.symbol-index l.fn.symbols) ++ drop l.symbol-index l.fn.symbols
