use Rattle.std.proofs.Common.{◌≡◌, ◌++◌, map, take, drop}
use Rattle.scope_table.specs.Refreshing.{without_eval}
use Rattle.scope_table.proofs.refreshing.clear_all.Given as goal

abbrev pub invariant-loop-scope : goal.invariant-loop-scope
invariant-loop-scope l = l.scopes ≡ map without_eval (take l.scope-index l.fn.scopes) ++ drop l.scope-index l.fn.scopes
