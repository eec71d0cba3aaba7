use Rattle.std.proofs.Common.{◌∙◌, ◌+◌, ap, set, sym, arith}
use Rattle.js_syntax.specs.Node.{row}
use Rattle.js_tree.specs.Weight.{size_of}
use Rattle.min_statements.specs.LeftNames.{named_item}
use Rattle.min_statements.proofs.Kept.{changing, changing_first, changing_next, changed}
use Rattle.min_statements.proofs.Naming.{each_named}
use Rattle.min_statements.proofs.Thinning.{next_sized}
use Rattle.min_statements.proofs.left_names.+names.Goals as goal

pub name_each-loop-item-init : goal.name_each-loop-item-init
name_each-loop-item-init t c = record { same = changing_first (named_item c.args.listed) c.args.items.now; small = omega arith }

pub name_each-loop-item-preserved : goal.name_each-loop-item-preserved
name_each-loop-item-preserved t c =
    let to = named_item c.args.listed in
    record {
      same = ap (λ x. changing to (set c.loop-item.items c.loop-item.item-index x) (c.loop-item.item-index + 1)) c.in_ok-name_item.ensures
          ∙ ap (λ x. changing to (set c.loop-item.items c.loop-item.item-index (to x)) (c.loop-item.item-index + 1)) (sym c.item-item.is)
          ∙ changing_next to c.loop-item.items c.loop-item.item-index c.item-item.result (omega (arith, c.loop-item-test.true, c.loop-item.auto.items)) c.item-item.is
          ∙ c.loop-item.invariant.same;
      small = next_sized c.loop-item.items c.loop-item.item-index c.item-item.result c.name_item.new.item (size_of (row c.args.items.now)) (omega (arith, c.loop-item-test.true, c.loop-item.auto.items)) c.item-item.is c.loop-item.invariant.small;
    }

pub name_each-returns : goal.name_each-returns
name_each-returns t c =
    ap row (sym (changed (named_item c.args.listed) c.loop-item.items c.loop-item.item-index (omega (arith, c.loop-item-test.false, c.loop-item.auto.items))) ∙ c.loop-item.invariant.same) ∙ each_named c.args.listed c.args.items.now
