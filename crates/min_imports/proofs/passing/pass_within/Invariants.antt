use Rattle.std.proofs.Common.{◌≡◌, ◌<◌, ◌+◌, ◌-◌, ℕ, false, None, get_or, length}
use Rattle.js_syntax.specs.Node.{row}
use Rattle.min_imports.specs.Merging.{overlaid}
use Rattle.min_imports.specs.Passing.{passes_at}
use Rattle.min_imports.proofs.passing.pass_within.Given as goal

abbrev pub invariant-loop-at : goal.invariant-loop-at
invariant-loop-at l = record {
  before : (j : ℕ) → j < l.at → passes_at l.uses (row l.listed.specifiers.now) (get_or l.staying j false) (get_or (overlaid l.items l.fn.changed.items) j None) ≡ None;
  same : l.changed.items ≡ l.fn.changed.items;
  even : length l.changed.items ≡ length l.staying;
}

abbrev pub decreases-loop-at : goal.decreases-loop-at
decreases-loop-at l = l.within.to + 1 - l.at
