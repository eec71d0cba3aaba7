use Rattle.std.proofs.Common.{◌≡◌, false}
use Rattle.js_syntax.specs.Node.{row}
use Rattle.rules.specs.Expressions.Jumps.{emptied_behind}
use Rattle.min_statements.proofs.Emptying.{emptying}
use Rattle.min_statements.proofs.inert.empty_each.Given as goal

abbrev pub invariant-loop-item : goal.invariant-loop-item
invariant-loop-item l = emptying l.jumped l.items l.item-index ≡ emptied_behind false (row l.fn.items)
