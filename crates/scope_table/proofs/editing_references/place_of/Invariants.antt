use Rattle.std.proofs.Common.{◌≡◌, drop}
use Rattle.scope_table.specs.Unbound.{place_of}
use Rattle.scope_table.proofs.editing_references.place_of.Given as goal

abbrev pub invariant-loop-i : goal.invariant-loop-i
invariant-loop-i l = place_of l.name l.i (drop l.i l.names) ≡ place_of l.name 0 l.names
