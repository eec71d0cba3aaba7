use Rattle.std.proofs.Common.{rules, ◌≡◌, ◌∙◌, ◌≤◌, [], ◌∷◌, refl, sym, ap, arith}
use Rattle.std.specs.Prelude.{string_bytes}
use Rattle.js_syntax.specs.Node.{row}
use Rattle.js_tree.specs.Weight.{size_of, tree_size}
use Rattle.js_tree.proofs.Sizes.{item_smaller}
use Rattle.min_context.specs.Naming.{gathered}
use Rattle.min_context.proofs.Gathered.{next}
use Rattle.min_context.proofs.naming.+gather.Goals.{gather_row-in-Some+in_ok-gather_node, gather_row-in_default}
use Rattle.min_context.proofs.naming.+gather.Goals as goal

pub gather_row-gather_node-requires : goal.gather_row-gather_node-requires
gather_row-gather_node-requires t c =
    let smaller = item_smaller c.args.children.now c.loop-child.child-index c.child-item.result c.loop-child-test.true c.child-item.is in
    let node_smaller : tree_size c.in-Some.node ≤ size_of (row c.args.children.now) = rw c.in-Some.is at smaller in
    omega (arith, node_smaller)

pub gather_row-loop-child-preserved : goal.gather_row-loop-child-preserved
gather_row-loop-child-preserved t c =
    let one : string_bytes c.match-child.text ≡ gathered (string_bytes c.loop-child.text) (row (c.child-item.result ∷ [])) =
    elim c.match-child.branch [
      | gather_row-in-Some+in_ok-gather_node w ↦ rw (w.in-Some.is, w.text-is) (search rules)
      | gather_row-in_default w ↦ rw (w.in_default.is, w.text-is) refl
    ] in
    one ∙ ap (λ text. gathered text (row (c.child-item.result ∷ []))) c.loop-child.invariant ∙ sym (next (string_bytes c.args.text.now) c.args.children.now c.loop-child.child-index c.child-item.result c.loop-child-test.true c.child-item.is)
