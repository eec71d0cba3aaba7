use Rattle.std.proofs.Common.{◌≡◌, map, drop}
use Rattle.fresh_names.specs.Uid.{with_names}
use Rattle.fresh_names.proofs.uid.UidGenerator.add_unresolved.Given as goal

abbrev pub invariant-loop-unresolved : goal.invariant-loop-unresolved
invariant-loop-unresolved l = with_names (map (λ u. u.name) (drop l.unresolved-index l.names)) l.self ≡ with_names (map (λ u. u.name) l.names) l.initial.self
