use Rattle.std.proofs.Common.{◌≡◌, ◌≤◌, ◌-◌, ℕ, Option, length, get_or}
use Rattle.js_syntax.specs.Node.{Tree}
use Rattle.min_imports.proofs.Laying.{laid}
use Rattle.min_imports.proofs.merged.put_changed.Given as goal

abbrev pub invariant-loop-at : goal.invariant-loop-at
invariant-loop-at l = record {
  now : l.items ≡ laid l.at l.fn.items l.fn.changed;
  later : (i : ℕ) (d : Option Tree) → l.at ≤ i → get_or l.changed i d ≡ get_or l.fn.changed i d;
  long : length l.changed ≡ length l.fn.changed;
}

abbrev pub decreases-loop-at : goal.decreases-loop-at
decreases-loop-at l = length l.changed - l.at
