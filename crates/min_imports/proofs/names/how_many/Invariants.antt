use Rattle.std.proofs.Common.{◌≡◌, ◌≤◌, ◌+◌, drop}
use Rattle.js_syntax.specs.Node.{row}
use Rattle.steps.specs.Allowed.MergedImports.{how_many}
use Rattle.min_imports.specs.Merging.{is_of}
use Rattle.min_imports.proofs.names.how_many.Given as goal

abbrev pub invariant-loop-item : goal.invariant-loop-item
invariant-loop-item l = record {
  told : l.count + how_many (is_of l.sort) (row (drop l.item-index l.names)) ≡ how_many (is_of l.sort) (row l.names);
  few : l.count ≤ l.item-index;
}
