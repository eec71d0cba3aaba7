use Rattle.std.proofs.Common.{◌≡◌, map, drop}
use Rattle.std.specs.List.{list_any}
use Rattle.scope_table.specs.Reading.{symbol_at, reference_at, is_write}
use Rattle.scope_table.proofs.scoping.Scoping.symbol_is_mutated.Given as goal

abbrev pub invariant-loop-reference : goal.invariant-loop-reference
invariant-loop-reference l =
    list_any (λ r. is_write (reference_at l.self r)) (map (λ r. r.0) (drop l.reference-index l.reference-items)) ≡ list_any (λ r. is_write (reference_at l.self r)) (symbol_at l.self l.fn.symbol.0).references
