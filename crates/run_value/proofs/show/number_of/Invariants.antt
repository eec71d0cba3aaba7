use Rattle.std.proofs.Common.{◌≡◌, drop}
use Rattle.js_meaning.specs.Show.{number_of}
use Rattle.run_value.specs.Showing.{values_of}
use Rattle.run_value.proofs.show.number_of.Given as goal

abbrev pub invariant-loop-i : goal.invariant-loop-i
invariant-loop-i l = number_of l.number (values_of (drop l.i l.seen)) l.i ≡ number_of l.number (values_of l.seen) 0
