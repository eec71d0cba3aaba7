use Rattle.std.proofs.Common.{◌≡◌, drop, string_bytes}
use Rattle.run_value.specs.Place.{place_from}
use Rattle.run_value.proofs.object.place_of.Given as goal

abbrev pub invariant-loop-i : goal.invariant-loop-i
invariant-loop-i l = place_from l.i (drop l.i l.keys) (string_bytes l.key.value) ≡ place_from 0 l.keys (string_bytes l.key.value)
