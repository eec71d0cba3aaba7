use Rattle.std.proofs.Common.{◌≡◌, ◌+◌, ◌<◌, ◌∙◌, length, drop, set, Some, None, sym, ap, ap₂, arith}
use Rattle.js_syntax.specs.Node.{row}
use Rattle.js_tree.specs.Weight.{size_of}
use Rattle.scope_walk.proofs.MarkSteps.{all_marked, all_behind, left, front_of, next_node, next_behind, next_absent, absent_behind, all_done}
use Rattle.scope_walk.proofs.mark.+mark.Goals.{mark_children-in-Some, mark_children-in-None}
use Rattle.scope_walk.proofs.mark.+mark.Goals as goal

pub mark_children-loop-child-preserved : goal.mark_children-loop-child-preserved
mark_children-loop-child-preserved t c =
    let within : c.loop-child.child-index < length c.loop-child.children = omega (arith, c.loop-child-test.true, c.loop-child.auto.children) in
    elim c.match-child.branch [
      | mark_children-in-Some w ↦
          let front = front_of c.loop-child.children c.loop-child.child-index c.child-item.result (Some w.in-Some.node) within w.in-Some.is in
          let marks = w.marks-is ∙ w.mark_node.ensures.marks in
          record {
            tree = ap₂ (λ ts m. all_marked ts (c.loop-child.child-index + 1) m) w.children-is marks
                ∙ next_node c.loop-child.children c.loop-child.child-index w.in-Some.node w.mark_node.new.node c.loop-child.marks within front w.mark_node.ensures.tree
                ∙ c.loop-child.invariant.tree;
            marks = ap₂ (λ ts m. all_behind ts (c.loop-child.child-index + 1) m) w.children-is marks
                ∙ next_behind c.loop-child.children c.loop-child.child-index (Some w.mark_node.new.node) w.in-Some.node c.loop-child.marks front
                ∙ c.loop-child.invariant.marks;
            small = omega (arith, ap (λ ts. size_of (row (drop (c.loop-child.child-index + 1) ts))) w.children-is, ap (λ ts. size_of (row ts)) (left c.loop-child.children c.loop-child.child-index (Some w.mark_node.new.node)), ap (λ ts. size_of (row ts)) front, c.loop-child.invariant.small);
          }
      | mark_children-in-None w ↦
          let front = front_of c.loop-child.children c.loop-child.child-index c.child-item.result None within w.in-None.is in
          let now : c.match-child.children ≡ set c.loop-child.children c.loop-child.child-index None = w.children-is ∙ ap (λ y. set c.loop-child.children c.loop-child.child-index y) w.in-None.is in
          record {
            tree = ap₂ (λ ts m. all_marked ts (c.loop-child.child-index + 1) m) now w.marks-is
                ∙ next_absent c.loop-child.children c.loop-child.child-index c.loop-child.marks within front
                ∙ c.loop-child.invariant.tree;
            marks = ap₂ (λ ts m. all_behind ts (c.loop-child.child-index + 1) m) now w.marks-is
                ∙ absent_behind c.loop-child.children c.loop-child.child-index c.loop-child.marks front
                ∙ c.loop-child.invariant.marks;
            small = omega (arith, ap (λ ts. size_of (row (drop (c.loop-child.child-index + 1) ts))) now, ap (λ ts. size_of (row ts)) (left c.loop-child.children c.loop-child.child-index None), ap (λ ts. size_of (row ts)) front, c.loop-child.invariant.small);
          }
    ]

pub mark_children-returns-clause-tree : goal.mark_children-returns-clause-tree
mark_children-returns-clause-tree t c = sym (all_done c.loop-child.children c.loop-child.child-index c.loop-child.marks (omega (arith, c.loop-child-test.false, c.loop-child.auto.children))) ∙ c.loop-child.invariant.tree
