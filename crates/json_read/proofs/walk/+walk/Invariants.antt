use Rattle.std.proofs.Common.{◌≡◌, ◌+◌, ◌*◌, drop, map, length}
use Rattle.json_value.specs.View.{view, items_view}
use Rattle.js_syntax.specs.Node.{row}
use Rattle.json_text.specs.Reading.{read_node, read_items, read_body, before}
use Rattle.json_table.specs.View.{class_view, field_view}
use Rattle.json_scan.specs.Place.{fault_at}
use Rattle.json_scan.specs.Scalar.{one_item}
use Rattle.json_scan.specs.Scan.{scan}
use Rattle.json_read.proofs.walk.+walk.Given as goal

abbrev pub decreases-read_node : goal.decreases-read_node
decreases-read_node l = 8 * l.levels

abbrev pub decreases-read_row : goal.decreases-read_row
decreases-read_row l = 8 * l.levels + 7

abbrev pub decreases-read_parenthesized : goal.decreases-read_parenthesized
decreases-read_parenthesized l = 8 * l.levels + 7

abbrev pub decreases-read_below : goal.decreases-read_below
decreases-read_below l = 8 * l.levels + 6

abbrev pub decreases-read_held : goal.decreases-read_held
decreases-read_held l = 8 * l.levels + 5

abbrev pub decreases-read_body : goal.decreases-read_body
decreases-read_body l = 8 * l.levels + 4

abbrev pub decreases-read_items : goal.decreases-read_items
decreases-read_items l = 8 * l.levels + 2

abbrev pub invariant-read_below-fields : goal.invariant-read_below-fields
invariant-read_below-fields l =
    scan (read_node l.levels) l.kind (map field_view l.all) (view l.node) ≡ before (row l.children.items) (scan (read_node l.levels) l.kind (map field_view (drop l.field-index l.all)) (view l.node))

abbrev pub invariant-read_items-items : goal.invariant-read_items-items
invariant-read_items-items l =
    let one = one_item l.holes (read_node l.levels (class_view l.wanted) (fault_at l.place)) in
    before (row l.fn.front.items) (read_items one (items_view l.items)) ≡ before (row l.found.items) (read_items one (items_view (drop l.item-index l.items)))

abbrev pub invariant-read_body-directives : goal.invariant-read_body-directives
invariant-read_body-directives l =
    read_body (read_node l.levels) (class_view l.wanted) (fault_at l.place) (items_view l.items) ≡ before (row l.found.items) (read_body (read_node l.levels) (class_view l.wanted) (fault_at l.place) (items_view l.rest))

abbrev pub decreases-read_body-directives : goal.decreases-read_body-directives
decreases-read_body-directives l = length l.rest
