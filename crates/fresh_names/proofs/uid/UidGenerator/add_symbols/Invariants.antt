use Rattle.std.proofs.Common.{◌≡◌, map, drop}
use Rattle.fresh_names.specs.Uid.{with_names}
use Rattle.fresh_names.proofs.uid.UidGenerator.add_symbols.Given as goal

-- the names that are left end where all of them do
abbrev pub invariant-loop-name : goal.invariant-loop-name
invariant-loop-name l = with_names (map (λ x. x.now) (drop l.name-index l.name-items)) l.self ≡ with_names (map (λ x. x.now) l.name-items) l.initial.self
