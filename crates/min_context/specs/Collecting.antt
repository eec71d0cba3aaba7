-- What a visit does to the collector.
use Rattle.std.specs.Prelude.{◌≡◌, Bool, true, cond, is_some}
use Rattle.js_syntax.specs.Node.{Tree}
use Rattle.js_tree.specs.Names.{eval_of_call}
use Rattle.scope_counts.specs.Counts.{by_id, own}
use Rattle.min_context.specs.Left.{Left}
use Rattle.min_context.specs.declared.collector.DroppedSubtreeCollector.{DroppedSubtreeCollector}

-- it marks what the node is itself, walks on, and notes that where it did
pub record Collects (c : DroppedSubtreeCollector) (x : Tree) (on : Bool) (d : DroppedSubtreeCollector) : Type 0 where
  pub walks_on : on ≡ true
  pub left : Left c.changes.now (λ r. own (by_id r) x.note x.kind) (cond (is_some (eval_of_call x.kind x.below)) 1 0) d.changes.now
  pub same_reference : d.changes.ghost_name ≡ c.changes.ghost_name
