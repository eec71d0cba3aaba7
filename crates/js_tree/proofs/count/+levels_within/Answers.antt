use Rattle.std.proofs.Common.{◌≡◌, ◌∙◌, ap, arith}
use Rattle.js_tree.specs.Count.{one_each, lower, levels_at}
use Rattle.js_tree.proofs.Children.{none_left}
use Rattle.js_tree.proofs.Sizes.{child_smaller}
use Rattle.js_tree.proofs.Levels.{levels_child, levels_none}
use Rattle.js_tree.proofs.count.+levels_within.Goals as goal
use Rattle.js_tree.proofs.count.+levels_within.Goals.{in-Some, in_default}

pub levels_within-requires : goal.levels_within-requires
levels_within-requires t c =
    (omega (arith, child_smaller _ _ _ _ c.args.node.now c.loop-at-test.true c.index-children-at.is c.in-Some.is c.children-children.ensures), (omega (arith, c.requires.few), c.lower_by.ensures.one))

pub loop-at-init : goal.loop-at-init
loop-at-init t c = record { all = omega (arith, ap (levels_at (lower c.args.node.now.kind) 0) c.children-children.ensures); few = omega arith }

pub loop-at-preserved : goal.loop-at-preserved
loop-at-preserved t c =
    elim c.match-child.branch [
      | in-Some w ↦
          let low : w.lower_by.result ≡ lower c.args.node.now.kind c.loop-at.at = w.lower_by.ensures.lower ∙ ap (λ k. lower k c.loop-at.at) c.kind-kind.ensures in
          let next = levels_child (lower c.args.node.now.kind) _ _ _ _ c.loop-at-test.true c.index-children-at.is w.in-Some.is in
          record {
            all = omega (arith, low, next, c.loop-at.invariant.all, w.levels_within.ensures, w.max-deepest.ensures, w.deepest-is);
            few = omega (arith, c.loop-at.invariant.few, w.levels_within.ensures, w.max-deepest.ensures, w.deepest-is);
          }
      | in_default w ↦
          let next = levels_none (lower c.args.node.now.kind) _ _ _ c.loop-at-test.true c.index-children-at.is w.in_default.is in
          record { all = omega (arith, next, c.loop-at.invariant.all, w.deepest-is); few = omega (arith, c.loop-at.invariant.few, w.deepest-is) }
    ]

pub returns-then-own-limit : goal.returns-then-own-limit
returns-then-own-limit t c = omega (arith, ap one_each c.kind-kind.ensures, c.own_count.ensures.own, c.if-own-limit.true)

pub returns-then-deepest-left : goal.returns-then-deepest-left
returns-then-deepest-left t c =
    omega (arith, ap one_each c.kind-kind.ensures, c.own_count.ensures.own, c.if-own-limit.false, c.loop-at.invariant.all, c.if-deepest-left.true)

pub returns : goal.returns
returns t c =
    omega (arith, ap one_each c.kind-kind.ensures, c.own_count.ensures.own, c.if-own-limit.false, ap (levels_at (lower c.args.node.now.kind) c.loop-at.at) (none_left _ _ c.loop-at-test.false), c.loop-at.invariant.all)
