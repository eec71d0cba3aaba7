use Rattle.std.proofs.Common.{◌≡◌, ℕ, List, [], ◌++◌, drop}
use Rattle.js_syntax.specs.Node.{row}
use Rattle.min_imports.specs.Items.{stays, Tells}
use Rattle.min_imports.proofs.repeated.which_stay.Given as goal

abbrev pub invariant-loop-item : goal.invariant-loop-item
invariant-loop-item l = record {
  before : List (List ℕ);
  tells : Tells l.asked before;
  so_far : l.staying.items ++ stays before (row (drop l.item-index l.items)) ≡ stays [] (row l.items);
}
