use Rattle.std.proofs.Common.{◌∙◌, ◌≤◌, ◌||◌, sym, ap, arith}
use Rattle.js_syntax.specs.Node.{row}
use Rattle.js_tree.specs.Weight.{size_of, tree_size}
use Rattle.js_tree.proofs.Sizes.{item_smaller}
use Rattle.json_table.specs.View.{class_view, field_view}
use Rattle.json_fits.specs.Rows.{first_row, second_row}
use Rattle.json_fits.specs.Fitting.{key_of, is_of_row, is_planned}
use Rattle.json_fits.proofs.Walking.{fields_over}
use Rattle.json_fits.proofs.walk.+fits.Goals as goal

pub are_items-is_item-requires : goal.are_items-is_item-requires
are_items-is_item-requires t c =
    let smaller : tree_size c.in-Some.node ≤ size_of (row c.args.nodes.now) = rw c.in-Some.is at (item_smaller c.args.nodes.now c.loop-node.node-index c.node-item.result c.loop-node-test.true c.node-item.is) in
    (omega (arith, smaller), tt)

pub have_places-returns : goal.have_places-returns
have_places-returns t c =
    c.is_end.ensures ∙ sym (fields_over c.args.private (key_of c.args.kind.now) field_view c.args.fields.now c.loop-field.field-index c.loop-field.left.now (omega (arith, c.loop-field-test.false))) ∙ sym c.loop-field.invariant.same

pub is_of-returns-else-is_of_row : goal.is_of-returns-else-is_of_row
is_of-returns-else-is_of_row t c =
    let node = c.args.node.now in
    let here = is_of_row node.kind node.below (λ p. is_planned p node.below) (class_view c.args.wanted) in
    c.is_of_row-else-is_of_row.ensures ∙ ap here (c.second_row.ensures ∙ ap second_row c.kind-else-is_of_row.ensures)
    ∙ ap (λ b. b || here (second_row node.kind)) (sym (ap here (sym (c.first_row.ensures ∙ ap first_row c.kind.ensures)) ∙ sym c.is_of_row.ensures ∙ c.if-is_of_row.false))
