use Rattle.std.proofs.Common.{◌≡◌, map, drop}
use Rattle.std.specs.List.{list_any}
use Rattle.scope_table.specs.Reading.{ancestors}
use Rattle.test_traverse_scoping.proofs.NewScope.{is_met}
use Rattle.test_traverse_scoping.proofs.scopes.is_outside.Given as goal

abbrev pub invariant-loop-ancestor : goal.invariant-loop-ancestor
invariant-loop-ancestor l = list_any (is_met l.scoping l.scope.0) (map (λ a. a.0) (drop l.ancestor-index l.ancestor-items)) ≡ list_any (is_met l.scoping l.scope.0) (ancestors l.scoping l.fn.other.0)
