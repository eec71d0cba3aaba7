use Rattle.std.proofs.Common.{◌≡◌, take}
use Rattle.scope_rules.specs.Table.{symbols_of}
use Rattle.scope_table.specs.Named.{scopes_named}
use Rattle.scope_table.proofs.scope.scopes_with.Given as goal

abbrev pub invariant-loop-i : goal.invariant-loop-i
invariant-loop-i l = l.scopes.items ≡ scopes_named (symbols_of l.names) (take l.i l.symbols) 0 l.sites
