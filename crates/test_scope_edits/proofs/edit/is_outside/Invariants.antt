use Rattle.std.proofs.Common.{◌≡◌, map, drop, nat_eq}
use Rattle.std.specs.List.{list_any}
use Rattle.scope_table.specs.Reading.{ancestors}
use Rattle.test_scope_edits.proofs.edit.is_outside.Given as goal

abbrev pub invariant-loop-ancestor : goal.invariant-loop-ancestor
invariant-loop-ancestor l = list_any (nat_eq l.scope.0) (map (λ a. a.0) (drop l.ancestor-index l.ancestor-items)) ≡ list_any (nat_eq l.scope.0) (ancestors l.scoping l.fn.other.0)
