use Rattle.std.proofs.Common.{◌+◌, ◌∙◌, ℕ, drop, ap, ap₂, arith}
use Rattle.js_syntax.specs.Node.{row}
use Rattle.js_tree.proofs.Children.{child_at, none_at}
use Rattle.js_tree.proofs.Sizes.{child_smaller}
use Rattle.scope_rules.specs.Context.{inside}
use Rattle.scope_rules.specs.Site.{scope_count, sites, added}
use Rattle.scope_walk.specs.Walk.{node_sites}
use Rattle.scope_walk.proofs.Steps.{next_child, next_absent}
use Rattle.scope_walk.proofs.walk.+add_sites.Goals.{in-Some+in_ok-inner+in_ok-next, in_default}
use Rattle.scope_walk.proofs.walk.+add_sites.Goals as goal

pub add_sites-requires : goal.add_sites-requires
add_sites-requires t c =
    let here = ap scope_count (child_at _ _ _ _ c.loop-at-test.true c.index-children-at.is c.in-Some.is) in
    let smaller = child_smaller _ _ _ _ c.args.node.now c.loop-at-test.true c.index-children-at.is c.in-Some.is c.children-children.ensures in
    (omega (arith, smaller), omega (arith, here, c.loop-at.invariant.next, c.requires.fits))

pub loop-at-preserved : goal.loop-at-preserved
loop-at-preserved t c =
    elim c.match-child.branch [
      | in-Some+in_ok-inner+in_ok-next w ↦
          let around = inside c.args.context.now c.args.next c.args.node.now.kind c.args.node.now.below in
          let step = w.found-is ∙ w.in_ok-next.ensures.found ∙ ap (λ k. added c.loop-at.found (node_sites k c.loop-at.next w.in-Some.child)) w.in_ok-inner.ensures.inside in
          let next = next_child around c.children-children.result.now c.loop-at.at c.loop-at.next c.index-children-at.result w.in-Some.child c.loop-at.found c.match-child.found _ c.loop-at-test.true c.index-children-at.is w.in-Some.is step c.loop-at.invariant.found in
          record {
            next = omega (arith, ap scope_count (child_at _ _ _ _ c.loop-at-test.true c.index-children-at.is w.in-Some.is), c.loop-at.invariant.next, w.next-is, w.in_ok-next.ensures.next);
            found = ap (λ (n : ℕ). added c.match-child.found (sites around (c.loop-at.at + 1) n (row (drop (c.loop-at.at + 1) c.children-children.result.now)))) (w.next-is ∙ w.in_ok-next.ensures.next) ∙ next;
          }
      | in_default w ↦
          let around = inside c.args.context.now c.args.next c.args.node.now.kind c.args.node.now.below in
          let next = next_absent around c.children-children.result.now c.loop-at.at c.loop-at.next c.index-children-at.result c.loop-at.found _ c.loop-at-test.true c.index-children-at.is w.in_default.is c.loop-at.invariant.found in
          record {
            next = omega (arith, ap scope_count (none_at _ _ _ c.loop-at-test.true c.index-children-at.is w.in_default.is), c.loop-at.invariant.next, w.next-is);
            found = ap₂ (λ f (n : ℕ). added f (sites around (c.loop-at.at + 1) n (row (drop (c.loop-at.at + 1) c.children-children.result.now)))) w.found-is w.next-is ∙ next;
          }
    ]
