use Rattle.std.proofs.Common.{◌≡◌, ◌+◌, ◌++◌, drop}
use Rattle.js_syntax.specs.Node.{row}
use Rattle.js_tree.specs.Count.{node_count}
use Rattle.form_rules.specs.Rules.{privates_among}
use Rattle.form_declared.proofs.private.privates_among.Given as goal

abbrev pub invariant-loop-member : goal.invariant-loop-member
invariant-loop-member l = record {
  behind : l.next + node_count (row (drop l.member-index l.members)) ≡ l.place + node_count (row l.members);
  found : l.privates.items ++ privates_among l.next (row (drop l.member-index l.members)) ≡ privates_among l.place (row l.members);
}
