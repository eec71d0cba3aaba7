use Rattle.std.proofs.Common.{◌≤◌, ◌+◌, ◌∙◌, drop, ap, arith}
use Rattle.js_syntax.specs.Node.{row}
use Rattle.js_tree.specs.Weight.{size_of, tree_size}
use Rattle.js_tree.proofs.Sizes.{item_smaller}
use Rattle.scope_table.specs.Refreshing.{eval_scopes, marked_around}
use Rattle.scope_table.proofs.Flagged.{next_child, next_none}
use Rattle.scope_table.proofs.scoping.Scoping.+mark_in.Goals.{in-Some, in_default}
use Rattle.scope_table.proofs.scoping.Scoping.+mark_in.Goals as goal

pub mark_in-requires : goal.mark_in-requires
mark_in-requires t c =
    let smaller : tree_size c.in-Some.node ≤ size_of (row c.args.nodes.now) = rw c.in-Some.is at (item_smaller _ _ _ c.loop-child-test.true c.child-item.is) in
    (omega (arith, smaller, ap size_of c.children.ensures), tt)

pub loop-child-preserved : goal.loop-child-preserved
loop-child-preserved t c =
    let whole = marked_around (eval_scopes (row c.args.nodes.now)) c.args.self.now in
    elim c.match-child.branch [
      | in-Some w ↦
          ap (marked_around (eval_scopes (row (drop (c.loop-child.child-index + 1) c.args.nodes.now)))) w.self-is
          ∙ next_child c.args.nodes.now c.loop-child.child-index c.child-item.result w.in-Some.node c.loop-child.self w.mark_node.new.self w.mark_in.new.self whole c.loop-child-test.true c.child-item.is w.in-Some.is w.mark_node.ensures
          (w.mark_in.ensures ∙ ap (λ f. marked_around (eval_scopes f) w.mark_node.new.self) w.children.ensures) c.loop-child.invariant
      | in_default w ↦
          ap (marked_around (eval_scopes (row (drop (c.loop-child.child-index + 1) c.args.nodes.now)))) w.self-is
          ∙ next_none c.args.nodes.now c.loop-child.child-index c.child-item.result c.loop-child.self whole c.loop-child-test.true c.child-item.is w.in_default.is c.loop-child.invariant
    ]
