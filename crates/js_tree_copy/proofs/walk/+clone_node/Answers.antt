use Rattle.std.proofs.Common.{◌≡◌, Some, ap, sym, ◌∙◌, arith}
use Rattle.js_tree.proofs.Sizes.{child_smaller}
use Rattle.js_tree_copy.proofs.Children.{same_tree, one_more, all_copied}
use Rattle.js_tree_copy.proofs.walk.+clone_node.Goals as goal
use Rattle.js_tree_copy.proofs.walk.+clone_node.Goals.{in-Some+in_ok-clone_node-in-Some, in-None}

pub clone_node-requires : goal.clone_node-requires
clone_node-requires t c =
    (omega (arith, child_smaller _ _ _ _ c.args.node.now c.loop-child-test.true c.child-item.is c.in-Some.is c.children-children.ensures), tt)

pub loop-child-preserved : goal.loop-child-preserved
loop-child-preserved t c =
    let same : c.match-child.copy ≡ c.child-item.result =
    elim c.match-child.branch [
      | in-Some+in_ok-clone_node-in-Some w ↦ w.copy-is ∙ ap Some w.in_ok-clone_node-in-Some.ensures.equal ∙ sym w.in-Some.is
      | in-None w ↦ w.copy-is ∙ sym w.in-None.is
    ] in
    one_more _ _ _ _ _ _ c.loop-child-test.true c.child-item.is same c.loop-child.invariant c.in_ok-push.ensures.items

pub returns : goal.returns
returns t c =
    let new = c.new-copy.ensures in
    record {
      equal = same_tree c.set_id.new.self c.args.node.now
          (c.set_id.ensures.kind ∙ ap (λ a. a.kind) new ∙ c.in_ok-clone_kind.ensures.equal ∙ c.kind.ensures)
          (c.set_id.ensures.span ∙ ap (λ a. a.note.span) new ∙ c.span.ensures)
          (c.set_id.ensures.id ∙ c.id.ensures)
          (c.set_id.ensures.below ∙ ap (λ a. a.below) new ∙ all_copied _ _ _ _ c.loop-child-test.false c.loop-child.invariant c.children-children.ensures);
    }
