use Rattle.std.proofs.Common.{◌≡◌, ◌∙◌, ◌≤◌, ◌+◌, ◌++◌, ap, arith}
use Rattle.std.proofs.lemmas.Grind.{common_steps}
use Rattle.js_syntax.specs.Node.{row}
use Rattle.js_tree.specs.Weight.{size_of, tree_size}
use Rattle.js_tree.proofs.Children.{child_at, none_at}
use Rattle.js_tree.proofs.Sizes.{item_smaller}
use Rattle.js_tree.specs.Count.{one_each, node_count}
use Rattle.form_rules.specs.Scope.{declared_here}
use Rattle.form_declared.proofs.Steps.{next_found, next_alone}
use Rattle.form_declared.proofs.declared.+add_declared.Goals as goal
use Rattle.form_declared.proofs.declared.+add_declared.Goals.{in-Some+in-Nothing, in-Some-declared_here+in_ok-push, in_default-declared_here, in-Some+in_default-sought_below+in_ok-next-in_default-sought_below, in_default}

pub add_declared-requires : goal.add_declared-requires
add_declared-requires t c =
    let smaller : tree_size c.in-Some.node ≤ size_of (row c.args.nodes.now) = rw c.in-Some.is at (item_smaller _ _ _ c.loop-node-test.true c.node-item.is) in
    let here = ap node_count (child_at _ _ _ _ c.loop-node-test.true c.node-item.is c.in-Some.is) in
    (omega (arith, smaller, ap size_of c.children-in_default-sought_below.ensures), omega (arith, here, c.loop-node.invariant.behind, c.requires.fits, ap one_each c.kind-in-Some.ensures, c.count_of_kind.ensures.own, ap node_count c.children-in_default-sought_below.ensures))

pub loop-node-preserved : goal.loop-node-preserved
loop-node-preserved t c =
    elim c.match-node.branch [
      | in-Some+in-Nothing w ↦
          let here = child_at _ _ _ _ c.loop-node-test.true c.node-item.is w.in-Some.is in
          let pushed : w.match-declared_here.found.items ≡ c.loop-node.found.items ++ declared_here c.args.sought c.loop-node.next w.in-Some.node.kind =
          elim w.match-declared_here.branch [ in-Some-declared_here+in_ok-push v ↦ grind (arith, common_steps) | in_default-declared_here v ↦ grind (arith, common_steps) ] in
          let after : c.match-node.next ≡ c.loop-node.next + (one_each w.in-Some.node.kind + node_count w.in-Some.node.below + 0) =
          omega (arith, ap one_each w.kind-in-Some.ensures, w.count_of_kind.ensures.own, ap node_count w.children.ensures, w.place_behind-next.ensures.behind, w.next-is) in
          record {
            behind = omega (arith, ap node_count here, c.loop-node.invariant.behind, after);
            found = next_alone _ _ _ _ _ _ _ _ _ _ _ here (cc (w.in-Nothing.ensures, w.kind-in-Some-2.ensures)) (ap (λ v. v.items) w.found-is ∙ pushed) after c.loop-node.invariant.found;
          }
      | in-Some+in_default-sought_below+in_ok-next-in_default-sought_below w ↦
          let here = child_at _ _ _ _ c.loop-node-test.true c.node-item.is w.in-Some.is in
          let pushed : w.match-declared_here.found.items ≡ c.loop-node.found.items ++ declared_here c.args.sought c.loop-node.next w.in-Some.node.kind =
          elim w.match-declared_here.branch [ in-Some-declared_here+in_ok-push v ↦ grind (arith, common_steps) | in_default-declared_here v ↦ grind (arith, common_steps) ] in
          let after : c.match-node.next ≡ c.loop-node.next + (one_each w.in-Some.node.kind + node_count w.in-Some.node.below + 0) =
          omega (arith, ap one_each w.kind-in-Some.ensures, w.count_of_kind.ensures.own, ap node_count w.children-in_default-sought_below.ensures, w.in_ok-next-in_default-sought_below.ensures.behind, w.next-is) in
          record {
            behind = omega (arith, ap node_count here, c.loop-node.invariant.behind, after);
            found = next_found _ _ _ _ _ _ _ _ _ _ _ here (cc (pushed, w.found-is, w.in_ok-next-in_default-sought_below.ensures.found, w.sought_below.ensures, w.kind-in-Some-2.ensures, w.kind-in-Some.ensures, w.count_of_kind.ensures.own, w.children-in_default-sought_below.ensures)) after c.loop-node.invariant.found;
          }
      | in_default w ↦
          let here = none_at _ _ _ c.loop-node-test.true c.node-item.is w.in_default.is in
          record {
            behind = omega (arith, ap node_count here, c.loop-node.invariant.behind, w.next-is);
            found = grind (arith, common_steps, here, w.found-is, w.next-is, c.loop-node.invariant.found);
          }
    ]
