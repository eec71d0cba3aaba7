use Rattle.std.proofs.Common.{◌≡◌, ◌+◌, ◌++◌, length}
use Rattle.js_syntax.specs.Node.{row}
use Rattle.js_tree.specs.Count.{node_count}
use Rattle.form_declared.specs.Part.{part_test, places}
use Rattle.form_declared.proofs.row.places.Given as goal

abbrev pub invariant-loop-rest : goal.invariant-loop-rest
invariant-loop-rest l = record {
  behind : l.next + node_count (row l.rest) ≡ l.place + node_count (row l.nodes);
  found : l.found.items ++ places (part_test l.part) l.next (row l.rest) ≡ places (part_test l.part) l.place (row l.nodes);
}

abbrev pub decreases-loop-rest : goal.decreases-loop-rest
decreases-loop-rest l = length l.rest
