use Rattle.std.proofs.Common.{◌≡◌, [], take}
use Rattle.scope_rules.specs.Table.{symbols_of}
use Rattle.scope_table.specs.Kept.{kept_from}
use Rattle.scope_table.proofs.symbol.declared_symbols.Given as goal

abbrev pub invariant-loop-site : goal.invariant-loop-site
invariant-loop-site l = l.symbols.items ≡ kept_from l.names (take l.site-index l.sites) [] 0 (symbols_of l.names)
