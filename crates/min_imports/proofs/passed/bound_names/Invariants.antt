use Rattle.std.proofs.Common.{◌≤◌, drop, length}
use Rattle.js_syntax.specs.Node.{row}
use Rattle.min_imports.specs.Passing.{Bound}
use Rattle.min_imports.proofs.passed.bound_names.Given as goal

abbrev pub invariant-loop-at : goal.invariant-loop-at
invariant-loop-at l = record {
  inside : l.at ≤ length l.names;
  bound : Bound l.bound (row (drop l.at l.names));
}

abbrev pub decreases-loop-at : goal.decreases-loop-at
decreases-loop-at l = l.at
