use Rattle.std.proofs.Common.{◌≡◌, ◌+◌, ◌++◌, drop}
use Rattle.js_syntax.specs.Node.{row}
use Rattle.js_tree.specs.Count.{node_count}
use Rattle.form_rules.specs.Rules.{exported_among}
use Rattle.form_declared.proofs.exported.exported_among.Given as goal

abbrev pub invariant-loop-statement : goal.invariant-loop-statement
invariant-loop-statement l = record {
  behind : l.next + node_count (row (drop l.statement-index l.statements)) ≡ l.place + node_count (row l.statements);
  found : l.exported.items ++ exported_among l.next (row (drop l.statement-index l.statements)) ≡ exported_among l.place (row l.statements);
}
