use Rattle.std.proofs.Common.{◌≡◌, [], ◌∙◌, true, Ok, Err, refl, sym, ap, arith, rules}
use Rattle.std.proofs.lemmas.Result.{err_from_is_err_and}
use Rattle.std.proofs.lemmas.List.{drop_all}
use Rattle.json_value.specs.View.{view}
use Rattle.js_syntax.specs.Node.{row, forest_of}
use Rattle.js_syntax.specs.Table as table
use Rattle.json_table.specs.View.{class_view, row_view}
use Rattle.js_tree.proofs.Rows.{joined_nothing, row_push}
use Rattle.json_scan.specs.Place.{fault_at}
use Rattle.json_scan.specs.Scalar.{one_item}
use Rattle.json_scan.proofs.Steps.{fails_bind}
use Rattle.json_text.specs.Reading.{read_node, is_directive}
use Rattle.json_read.specs.Held.{held_row}
use Rattle.json_read.proofs.Steps.{node_none, node_more, row_read, none_read, fails_below, extras_fail, kind_fails, row_made, stands_for_itself, all_read}
use Rattle.json_read.proofs.Fields.{field_next, fields_over, node_item, every_item, hole_item, inner_missing, inner_fails, inner_extras, inner_read, item_next, item_fails, items_over, directive_next, whole}
use Rattle.json_read.proofs.walk.+walk.Goals.{read_below-in-Some+in_ok-push, read_below-in_default, read_items-then-holes+then-is_null, read_items-else-holes+in_ok-child, read_items-else-holes-via-then-holes+else-is_null, read_items-else-holes-via-else-holes}
use Rattle.json_read.proofs.walk.+walk.Goals as goal

-- ---- fields

pub read_below-fields-preserved : goal.read_below-fields-preserved
read_below-fields-preserved z c =
    let so_far = field_next (read_node c.args.levels) c.node_type-kind.result (view c.args.node.now) _ c.fields-all.result.now c.fields.field-index _ (row c.fields.children.items) (held_row c.in_ok-child.field-0) c.fields-test.true c.fields.invariant c.in_ok-child.ensures in
    elim c.match-branch-3.branch [
      | read_below-in-Some+in_ok-push w ↦ rw (w.children-is, w.in_ok-push.ensures.items, row_push) (rw w.in-Some.is at so_far)
      | read_below-in_default w ↦ rw w.children-is (rw (w.in_default.is, joined_nothing) at so_far)
    ]

pub read_below-returns : goal.read_below-returns
read_below-returns z c =
    rw (← c.node_type-kind.ensures, ← c.fields-all.ensures)
    (fields_over (read_node c.args.levels) c.node_type-kind.result (view c.args.node.now) _ c.fields-all.result.now c.fields.field-index (row c.fields.children.items) (omega (arith, c.fields-test.false)) c.fields.invariant)

-- ---- items

pub read_items-returns-in_err-child : goal.read_items-returns-in_err-child
read_items-returns-in_err-child z c =
    let one = one_item c.args.holes (read_node c.args.levels (class_view c.args.wanted) (fault_at c.args.place)) in
    let below = read_node c.args.levels (class_view c.args.wanted) (fault_at c.args.place) in
    let d = view c.item-item.result in
    let p = err_from_is_err_and c.from_residual-in_err-child.result c.from_residual-in_err-child.ensures.1 in
    let node : one d ≡ below d =
    elim c.else-holes.branch [
      | read_items-else-holes-via-then-holes+else-is_null w ↦ node_item c.args.holes below d (sym w.is_null.ensures ∙ w.if-is_null.false)
      | read_items-else-holes-via-else-holes w ↦ every_item c.args.holes below d w.if-holes.false
    ] in
    rw (p.1, p.2)
    (item_fails one _ c.args.items.now c.items.item-index c.item-item.result (row c.items.found.items) _ c.items-test.true c.item-item.is c.items.invariant (rw node c.in_err-child.ensures))

pub read_items-items-preserved : goal.read_items-items-preserved
read_items-items-preserved z c =
    let one = one_item c.args.holes (read_node c.args.levels (class_view c.args.wanted) (fault_at c.args.place)) in
    let below = read_node c.args.levels (class_view c.args.wanted) (fault_at c.args.place) in
    let d = view c.item-item.result in
    let read : one d ≡ Ok (forest_of c.if-holes.child) =
    elim c.if-holes.branch [
      | read_items-then-holes+then-is_null w ↦ hole_item c.args.holes below d w.if-holes.true (sym w.is_null.ensures ∙ w.if-is_null.true) ∙ rw (w.child-is, w.new-child.ensures, w.new.ensures.items) refl
      | read_items-else-holes+in_ok-child w ↦
          let node : one d ≡ below d =
          elim w.else-holes.branch [
            | read_items-else-holes-via-then-holes+else-is_null v ↦ node_item c.args.holes below d (sym v.is_null.ensures ∙ v.if-is_null.false)
            | read_items-else-holes-via-else-holes v ↦ every_item c.args.holes below d v.if-holes.false
          ] in
          node ∙ w.in_ok-child.ensures ∙ rw w.child-is refl
    ] in
    rw (c.in_ok-push.ensures.items, row_push)
    (item_next one _ c.args.items.now c.items.item-index c.item-item.result (row c.items.found.items) (forest_of c.if-holes.child) c.items-test.true c.item-item.is c.items.invariant read)

pub read_items-returns : goal.read_items-returns
read_items-returns z c =
    items_over (one_item c.args.holes (read_node c.args.levels (class_view c.args.wanted) (fault_at c.args.place))) _ c.args.items.now c.items.item-index (row c.items.found.items) (omega (arith, c.items-test.false)) c.items.invariant

-- ---- bodies

pub read_body-directives-preserved : goal.read_body-directives-preserved
read_body-directives-preserved z c =
    let yes : is_directive (view c.first-item.result) ≡ true = search rules in
    rw (c.in_ok-push.ensures.items, row_push, whole c.directives.rest.now c.in-len1-up.len_at_least)
    (directive_next (read_node c.args.levels) (class_view c.args.wanted) (fault_at c.args.place) _ c.directives.rest.now c.first-item.result (row c.directives.found.items) (forest_of c.in_ok-child.child)
    c.in-len1-up.len_at_least c.first-item.is yes c.directives.invariant c.in_ok-child.ensures)

pub read_body-returns : goal.read_body-returns
read_body-returns z c =
    let over : c.directives.rest.now ≡ [] = drop_all 0 c.directives.rest.now (omega (arith, c.in_default.len_below)) in
    all_read _ (row c.directives.found.items) (rw over at c.directives.invariant)

-- ---- nodes

pub read_node-returns-then-levels-eq0 : goal.read_node-returns-then-levels-eq0
read_node-returns-then-levels-eq0 z c = node_none _ _ _ _ (search rules)

pub read_node-returns-in_err-kind : goal.read_node-returns-in_err-kind
read_node-returns-in_err-kind z c =
    let p = err_from_is_err_and c.from_residual.result c.from_residual.ensures.1 in
    rw (p.1, p.2, node_more c.args.levels (class_view c.args.wanted) (fault_at c.args.place) (view c.args.node.now) (omega (arith, c.if-levels-eq0.false))) (fails_bind _ _ _ c.in_err-kind.ensures)

pub read_node-returns-in_default : goal.read_node-returns-in_default
read_node-returns-in_default z c =
    rw (c.fault.ensures, none_read c.args.levels (class_view c.args.wanted) (fault_at c.args.place) (view c.args.node.now) c.in_ok-kind.kind (omega (arith, c.if-levels-eq0.false)) c.in_ok-kind.ensures (sym c.in_default.ensures)) refl

pub read_node-returns-in-ParenthesizedTarget : goal.read_node-returns-in-ParenthesizedTarget
read_node-returns-in-ParenthesizedTarget z c =
    let here = sym (rw c.in-ParenthesizedTarget.is at c.in-Some.ensures) in
    rw (row_read c.args.levels (class_view c.args.wanted) (fault_at c.args.place) (view c.args.node.now) c.in_ok-kind.kind table.a_parenthesized_target (omega (arith, c.if-levels-eq0.false)) c.in_ok-kind.ensures here) c.read_parenthesized.ensures

pub read_node-returns-in_default-row : goal.read_node-returns-in_default-row
read_node-returns-in_default-row z c =
    rw (row_read c.args.levels (class_view c.args.wanted) (fault_at c.args.place) (view c.args.node.now) c.in_ok-kind.kind (row_view c.in-Some.row) (omega (arith, c.if-levels-eq0.false)) c.in_ok-kind.ensures (sym c.in-Some.ensures)) c.read_row.ensures

-- ---- rows

pub read_row-returns-in_err-children : goal.read_row-returns-in_err-children
read_row-returns-in_err-children z c =
    let p = err_from_is_err_and c.from_residual.result c.from_residual.ensures.1 in
    rw (p.1, p.2) (fails_below _ _ _ _ c.in_err-children.ensures)

pub read_row-returns-in_err-check_extras : goal.read_row-returns-in_err-check_extras
read_row-returns-in_err-check_extras z c =
    let p = err_from_is_err_and c.from_residual-in_err-check_extras.result c.from_residual-in_err-check_extras.ensures.1 in
    rw (p.1, p.2) (extras_fail _ _ _ _ _ c.in_ok-children.ensures (rw c.node_type.ensures at c.in_err-check_extras.ensures))

pub read_row-returns-in_err-kind : goal.read_row-returns-in_err-kind
read_row-returns-in_err-kind z c =
    let p = err_from_is_err_and c.from_residual-in_err-kind.result c.from_residual-in_err-kind.ensures.1 in
    rw (p.1, p.2) (kind_fails _ _ _ _ _ c.in_ok-children.ensures (rw c.node_type.ensures at c.in_ok-check_extras.ensures) c.in_err-kind.ensures)

pub read_row-returns : goal.read_row-returns
read_row-returns z c =
    row_made _ _ _ _ _ c.in_ok-children.ensures (rw c.node_type.ensures at c.in_ok-check_extras.ensures) c.in_ok-kind.ensures
    ∙ rw (c.new.ensures, c.span_of.ensures, stands_for_itself c.args.row c.requires) refl

-- ---- parentheses

pub read_parenthesized-returns-in_default : goal.read_parenthesized-returns-in_default
read_parenthesized-returns-in_default z c =
    rw (c.fault.ensures, inner_missing (read_node c.args.levels) (view c.args.node.now) (sym (rw c.place_of-place.ensures.field at c.in_default.ensures))) (ap Err (sym c.place_of-place.ensures.fault))

pub read_parenthesized-returns-in_err-inner : goal.read_parenthesized-returns-in_err-inner
read_parenthesized-returns-in_err-inner z c =
    let p = err_from_is_err_and c.from_residual.result c.from_residual.ensures.1 in
    rw (p.1, p.2) (inner_fails (read_node c.args.levels) (view c.args.node.now) (view c.in-Some.value.now) _ (sym (rw c.place_of-place.ensures.field at c.in-Some.ensures)) (rw c.place_of-place.ensures.fault at c.in_err-inner.ensures))

pub read_parenthesized-returns-in_err-check_extras : goal.read_parenthesized-returns-in_err-check_extras
read_parenthesized-returns-in_err-check_extras z c =
    let p = err_from_is_err_and c.from_residual-in_err-check_extras.result c.from_residual-in_err-check_extras.ensures.1 in
    rw (p.1, p.2)
    (inner_extras (read_node c.args.levels) (view c.args.node.now) (view c.in-Some.value.now) _ _ (sym (rw c.place_of-place.ensures.field at c.in-Some.ensures)) (rw c.place_of-place.ensures.fault at c.in_ok-inner.ensures) c.in_err-check_extras.ensures)

pub read_parenthesized-returns : goal.read_parenthesized-returns
read_parenthesized-returns z c =
    inner_read (read_node c.args.levels) (view c.args.node.now) (view c.in-Some.value.now) _ (sym (rw c.place_of-place.ensures.field at c.in-Some.ensures)) (rw c.place_of-place.ensures.fault at c.in_ok-inner.ensures) c.in_ok-check_extras.ensures
