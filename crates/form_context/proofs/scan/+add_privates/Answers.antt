use Rattle.std.proofs.Common.{◌≡◌, ◌≤◌, ◌∙◌, ◌++◌, append-nil, ap, sym, arith}
use Rattle.js_syntax.specs.Node.{row}
use Rattle.js_tree.specs.Weight.{size_of, tree_size}
use Rattle.js_tree.proofs.Children.{child_at, none_at}
use Rattle.js_tree.proofs.Sizes.{item_smaller}
use Rattle.form_rules.specs.Context.{private_of, privates_of}
use Rattle.form_context.specs.Name.{optional}
use Rattle.form_context.proofs.Index.{bytes_of, bytes_push}
use Rattle.form_context.proofs.Private.{found_so_far, of_member, of_list}
use Rattle.form_context.proofs.scan.+add_privates.Goals.{in-Some+in_default-kind+in-Some-private_of+in_ok-push-in_default-kind, in-Some+in_default-kind+in_default-private_of, in-Some+in-ClassBody+in_ok-add_privates-in-ClassBody, in_default}
use Rattle.form_context.proofs.scan.+add_privates.Goals as goal

pub add_privates-requires : goal.add_privates-requires
add_privates-requires t c =
    let smaller : tree_size c.in-Some.node ≤ size_of (row c.args.nodes.now) = rw c.in-Some.is at (item_smaller _ _ _ c.loop-node-test.true c.node-item.is) in
    omega (arith, smaller, ap size_of c.children.ensures)

pub loop-node-preserved : goal.loop-node-preserved
loop-node-preserved t c =
    elim c.match-node.branch [
      | in-Some+in_default-kind+in-Some-private_of+in_ok-push-in_default-kind w ↦
          let a = ap privates_of (child_at _ _ _ _ c.loop-node-test.true c.node-item.is w.in-Some.is) in
          let k = of_member w.in-Some.node.kind w.in-Some.node.note w.in-Some.node.below _ (λ e. w.in_default-kind.not-ClassBody (w.kind.ensures ∙ e)) (λ e. w.in_default-kind.not-Members (w.kind.ensures ∙ e)) in
          let s : bytes_of w.push.new.self.items ≡ bytes_of c.loop-node.found.items ++ private_of w.in-Some.node.kind w.in-Some.node.below = ap bytes_of w.in_ok-push-in_default-kind.ensures.items ∙ bytes_push _ _ ∙ ap (λ xs. bytes_of c.loop-node.found.items ++ xs) w.in-Some-private_of.ensures in
          found_so_far _ _ _ _ _ _ (ap (λ v. bytes_of v.items) w.found-is ∙ s) (a ∙ k) c.loop-node.invariant
      | in-Some+in_default-kind+in_default-private_of w ↦
          let a = ap privates_of (child_at _ _ _ _ c.loop-node-test.true c.node-item.is w.in-Some.is) in
          let k = of_member w.in-Some.node.kind w.in-Some.node.note w.in-Some.node.below _ (λ e. w.in_default-kind.not-ClassBody (w.kind.ensures ∙ e)) (λ e. w.in_default-kind.not-Members (w.kind.ensures ∙ e)) in
          let none = ap optional (sym w.in_default-private_of.is) ∙ w.private_of.ensures in
          found_so_far _ _ _ _ _ _ (ap (λ v. bytes_of v.items) w.found-is ∙ sym (append-nil _) ∙ ap (λ xs. bytes_of c.loop-node.found.items ++ xs) none) (a ∙ k) c.loop-node.invariant
      | in-Some+in-ClassBody+in_ok-add_privates-in-ClassBody w ↦
          let a = ap privates_of (child_at _ _ _ _ c.loop-node-test.true c.node-item.is w.in-Some.is) in
          let k = of_list w.in-Some.node.kind w.kind.result.now w.in-Some.node.note w.in-Some.node.below _ w.kind.ensures w.in-ClassBody.is in
          let s = w.in_ok-add_privates-in-ClassBody.ensures ∙ ap (λ xs. bytes_of c.loop-node.found.items ++ privates_of xs) w.children.ensures in
          found_so_far _ _ _ _ _ _ (ap (λ v. bytes_of v.items) w.found-is ∙ s) (a ∙ k) c.loop-node.invariant
      | in_default w ↦
          found_so_far _ _ _ _ _ _ (ap (λ v. bytes_of v.items) w.found-is ∙ sym (append-nil _)) (ap privates_of (none_at _ _ _ c.loop-node-test.true c.node-item.is w.in_default.is)) c.loop-node.invariant
    ]
