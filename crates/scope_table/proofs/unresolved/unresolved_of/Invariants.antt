use Rattle.std.proofs.Common.{◌≡◌, [], map, take, option_and_then}
use Rattle.scope_rules.specs.Table.{names_behind, unresolved_from}
use Rattle.scope_table.specs.Unbound.{name_told, number_of}
use Rattle.scope_table.proofs.unresolved.unresolved_of.Given as goal

abbrev pub invariant-loop-i : goal.invariant-loop-i
invariant-loop-i l =
    l.names.items ≡ unresolved_from (map (λ u. option_and_then (number_of l.numbers) u) (map name_told (take l.i l.unbound))) 0 (names_behind [] (map name_told l.unbound))
