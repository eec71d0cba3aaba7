use Rattle.std.proofs.Common.{◌<◌, ◌∙◌, ◌+◌, length, map, drop, set, sym, ap, arith}
use Rattle.js_syntax.specs.Node.{row}
use Rattle.js_tree.specs.Weight.{size_of}
use Rattle.js_tree.proofs.Sizes.{child_size, rest_smaller}
use Rattle.min_pass.specs.Around.{row_below}
use Rattle.min_pass.specs.Pass.{swept}
use Rattle.min_pass.specs.Sweep.{swept_child}
use Rattle.min_pass.proofs.Sweeping.{all_swept, kept_smaller, changing, changing_first, changing_next, changed, behind, front_of, first_smaller, same_tree, written}
use Rattle.min_pass.proofs.pass.+sweep.Goals as goal

pub sweep_children-loop-child-init : goal.sweep_children-loop-child-init
sweep_children-loop-child-init t c = record { items = changing_first (swept_child c.args.around) c.args.children.now; small = omega arith }

pub sweep_children-sweep_child-requires : goal.sweep_children-sweep_child-requires
sweep_children-sweep_child-requires t c =
    let children = c.loop-child.children in
    let at = c.loop-child.child-index in
    let child = c.child-item.result in
    let within : at < length children = omega (arith, c.loop-child-test.true, c.loop-child.auto.children) in
    (omega (arith, ap child_size c.child-item.is, first_smaller child (drop (at + 1) children), ap (λ ts. size_of (row ts)) (front_of children at child within c.child-item.is), c.loop-child.invariant.small), tt)

pub sweep_children-loop-child-preserved : goal.sweep_children-loop-child-preserved
sweep_children-loop-child-preserved t c =
    let h = swept_child c.args.around in
    let children = c.loop-child.children in
    let at = c.loop-child.child-index in
    let child = c.child-item.result in
    let within : at < length children = omega (arith, c.loop-child-test.true, c.loop-child.auto.children) in
    record {
      items = ap (λ x. changing h (set children at x) (at + 1)) c.sweep_child.ensures
          ∙ ap (λ x. changing h (set children at (h x)) (at + 1)) (sym c.child-item.is)
          ∙ changing_next h children at child within c.child-item.is
          ∙ c.loop-child.invariant.items;
      small = omega (arith, ap (λ ts. size_of (row ts)) (behind children at c.sweep_child.new.child), rest_smaller child (drop (at + 1) children), ap (λ ts. size_of (row ts)) (front_of children at child within c.child-item.is), c.loop-child.invariant.small);
    }

pub sweep_children-returns : goal.sweep_children-returns
sweep_children-returns t c =
    sym (changed (swept_child c.args.around) c.loop-child.children c.loop-child.child-index (omega (arith, c.loop-child-test.false, c.loop-child.auto.children))) ∙ c.loop-child.invariant.items

pub sweep_node-sweep_children-requires : goal.sweep_node-sweep_children-requires
sweep_node-sweep_children-requires t c =
    (omega (arith, ap (λ ts. size_of (row ts)) c.as_mut_slice.ensures.value, ap (λ ts. size_of (row ts)) c.keep.ensures, kept_smaller c.row_below-below.result c.replace_children-children.result.items, ap size_of c.replace_children-children.ensures.taken), tt)

pub sweep_node-returns : goal.sweep_node-returns
sweep_node-returns t c =
    let r = c.row_below-below.result in
    let items = c.replace_children-children.result.items in
    same_tree _ _ _ _ (c.replace_children.ensures.kind ∙ c.replace_children-children.ensures.kind) (c.replace_children.ensures.note ∙ c.replace_children-children.ensures.note)
    (c.replace_children.ensures.below
    ∙ ap row (written c.keep.new.children.len c.sweep_children.new.children (drop (length c.sweep_children.new.children) c.keep.new.children.items) (omega (arith, c.sweep_children.auto.children, c.as_mut_slice.ensures.len)))
    ∙ ap row (c.sweep_children.ensures ∙ ap (map (swept_child r)) (c.as_mut_slice.ensures.value ∙ c.keep.ensures))
    ∙ all_swept r items
    ∙ ap (swept r) c.replace_children-children.ensures.taken
    ∙ ap (λ k. swept k c.args.node.now.below) (c.row_below-below.ensures ∙ ap (row_below c.args.around) c.kind.ensures))
