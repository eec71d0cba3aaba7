use Rattle.std.proofs.Common.{◌≡◌, ◌++◌, map, drop, slice_get}
use Rattle.std.specs.List.{filter_map}
use Rattle.scope_table.proofs.reading.references_among.Given as goal

abbrev pub invariant-loop-id : goal.invariant-loop-id
invariant-loop-id l =
    map (λ r. r.now) l.found.items ++ filter_map (λ r. slice_get l.references r) (map (λ r. r.0) (drop l.id-index l.ids)) ≡ filter_map (λ r. slice_get l.references r) (map (λ r. r.0) l.ids)
