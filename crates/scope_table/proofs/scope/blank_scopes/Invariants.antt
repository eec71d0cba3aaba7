use Rattle.std.proofs.Common.{◌≡◌, map, take}
use Rattle.scope_table.specs.Named.{blank_scope}
use Rattle.scope_table.proofs.scope.blank_scopes.Given as goal

abbrev pub invariant-loop-site : goal.invariant-loop-site
invariant-loop-site l = l.scopes.items ≡ map blank_scope (take l.site-index l.sites)
