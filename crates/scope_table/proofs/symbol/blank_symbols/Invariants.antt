use Rattle.std.proofs.Common.{◌≡◌, map, take}
use Rattle.scope_table.specs.Kept.{blank}
use Rattle.scope_table.proofs.symbol.blank_symbols.Given as goal

abbrev pub invariant-loop-first : goal.invariant-loop-first
invariant-loop-first l = l.symbols.items ≡ map blank (take l.first-index l.firsts)
