use Rattle.std.proofs.Common.{◌≡◌, map, take}
use Rattle.scope_rules.specs.Table.{number_or_none, symbol_declared}
use Rattle.scope_names.proofs.declared.Declared.symbols_declared.Given as goal

abbrev pub invariant-loop-site : goal.invariant-loop-site
invariant-loop-site l = l.symbols.items ≡ map (λ s. number_or_none (symbol_declared l.self s)) (take l.site-index l.sites)
