use Rattle.std.proofs.Common.{◌≡◌, ◌∙◌, ◌+◌, Bool, true, if◌then◌else◌, ap, drop, set, length, sym, arith}
use Rattle.js_syntax.specs.Node.{row}
use Rattle.js_tree.specs.Weight.{size_of}
use Rattle.rules.specs.Expressions.Untaken.{is_list, values_of, values_rid, rid}
use Rattle.steps.specs.Allowed.Untaken.{runs_inside}
use Rattle.min_statements.specs.Untaken.{kept_of, each_rid, rid_one}
use Rattle.min_statements.proofs.Kept.{changing, changing_first, changing_next, changed, same_tree, written}
use Rattle.min_statements.proofs.Thinning.{kept_rid, each_is_rid, kept_smaller, next_sized}
use Rattle.min_statements.proofs.untaken.+rid.Goals as goal

pub rid_each-loop-item-init : goal.rid_each-loop-item-init
rid_each-loop-item-init t c = record { same = changing_first rid_one c.args.items.now; small = omega arith }

pub rid_each-loop-item-preserved : goal.rid_each-loop-item-preserved
rid_each-loop-item-preserved t c = record {
  same = ap (λ x. changing rid_one (set c.loop-item.items c.loop-item.item-index x) (c.loop-item.item-index + 1)) c.rid_child.ensures
      ∙ ap (λ x. changing rid_one (set c.loop-item.items c.loop-item.item-index (rid_one x)) (c.loop-item.item-index + 1)) (sym c.item-item.is)
      ∙ changing_next rid_one c.loop-item.items c.loop-item.item-index c.item-item.result (omega (arith, c.loop-item-test.true, c.loop-item.auto.items)) c.item-item.is
      ∙ c.loop-item.invariant.same;
  small = next_sized c.loop-item.items c.loop-item.item-index c.item-item.result c.rid_child.new.child (size_of (row c.args.items.now)) (omega (arith, c.loop-item-test.true, c.loop-item.auto.items)) c.item-item.is c.loop-item.invariant.small;
}

pub rid_each-returns : goal.rid_each-returns
rid_each-returns t c = ap row (sym (changed rid_one c.loop-item.items c.loop-item.item-index (omega (arith, c.loop-item-test.false, c.loop-item.auto.items))) ∙ c.loop-item.invariant.same) ∙ each_is_rid c.args.items.now

pub rid_inside-rid_each-requires : goal.rid_inside-rid_each-requires
rid_inside-rid_each-requires t c = (
  omega (arith, ap size_of (ap row c.as_mut_slice.ensures.value ∙ c.keep_items.ensures ∙ ap (kept_of c.is_list-listed.result) c.replace_children-items.ensures.taken), kept_smaller c.is_list-listed.result c.args.node.now.below),
  tt,
)

pub rid_inside-returns-then-runs_inside : goal.rid_inside-returns-then-runs_inside
rid_inside-returns-then-runs_inside t c =
    let k = c.args.node.now.kind in
    let below = c.args.node.now.below in
    let runs : runs_inside k ≡ true = ap runs_inside (sym c.kind.ensures) ∙ sym c.runs_inside.ensures ∙ c.if-runs_inside.true in
    let listed : c.is_list-listed.result ≡ is_list k = c.is_list-listed.ensures ∙ ap is_list c.kind-then-runs_inside.ensures in
    same_tree _ _ _ _ (c.replace_children.ensures.kind ∙ c.replace_children-items.ensures.kind) (c.replace_children.ensures.note ∙ c.replace_children-items.ensures.note)
    (c.replace_children.ensures.below
    ∙ ap row (written c.keep_items.new.items.len c.rid_each.new.items (drop (length c.rid_each.new.items) c.keep_items.new.items.items) (omega (arith, c.rid_each.auto.items, c.as_mut_slice.ensures.len)))
    ∙ c.rid_each.ensures
    ∙ ap each_rid (ap row c.as_mut_slice.ensures.value ∙ c.keep_items.ensures ∙ ap (kept_of c.is_list-listed.result) c.replace_children-items.ensures.taken)
    ∙ kept_rid c.is_list-listed.result below
    ∙ ap (λ (b : Bool). rid b below) listed
    ∙ sym (ap (λ (b : Bool). if b then rid (is_list k) below else values_of k below (values_rid below)) runs))
