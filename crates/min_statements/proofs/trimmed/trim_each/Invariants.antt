use Rattle.std.proofs.Common.{◌≡◌, map}
use Rattle.min_statements.specs.Shed.{left_of}
use Rattle.min_statements.proofs.Kept.{changing}
use Rattle.min_statements.proofs.trimmed.trim_each.Given as goal

abbrev pub invariant-loop-item : goal.invariant-loop-item
invariant-loop-item l = changing (left_of l.facts l.at) l.items l.item-index ≡ map (left_of l.facts l.at) l.fn.items
