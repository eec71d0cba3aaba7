use Rattle.std.proofs.Common.{◌≡◌, ◌≤◌, ◌+◌, ◌*◌, ◌∷◌, [], drop, map}
use Rattle.js_syntax.specs.Node.{row}
use Rattle.js_tree.specs.Weight.{size_of, tree_size}
use Rattle.json_shape.specs.Shape.{these}
use Rattle.json_table.specs.View.{field_view}
use Rattle.json_fits.specs.Fitting.{key_of, places_by, is_planned}
use Rattle.json_fits.specs.Items.{items_view}
use Rattle.json_fits.proofs.walk.+fits.Given as goal

abbrev pub decreases-is_of : goal.decreases-is_of
decreases-is_of l = 8 * tree_size l.node.now + 2

abbrev pub decreases-is_of_row : goal.decreases-is_of_row
decreases-is_of_row l = 8 * tree_size l.node.now + 1

abbrev pub decreases-have_places : goal.decreases-have_places
decreases-have_places l = 8 * size_of (row l.nodes.now) + 6

abbrev pub decreases-has_place : goal.decreases-has_place
decreases-has_place l = 8 * size_of (row (l.node.now ∷ [])) + 5

abbrev pub decreases-is_at : goal.decreases-is_at
decreases-is_at l = 8 * tree_size l.node.now + 4

abbrev pub decreases-is_key : goal.decreases-is_key
decreases-is_key l = 8 * tree_size l.node.now + 3

abbrev pub decreases-are_items : goal.decreases-are_items
decreases-are_items l = 8 * size_of (row l.nodes.now) + 5

abbrev pub decreases-is_item : goal.decreases-is_item
decreases-is_item l = 8 * tree_size l.node.now + 3

abbrev pub invariant-have_places-loop-field : goal.invariant-have_places-loop-field
invariant-have_places-loop-field l = record {
  same : is_planned (these (places_by l.private (key_of l.kind) (map field_view l.fields))) (row l.nodes) ≡ is_planned (these (places_by l.private (key_of l.kind) (map field_view (drop l.field-index l.fields)))) (row l.left);
  small : size_of (row l.left) ≤ size_of (row l.nodes);
}

abbrev pub invariant-are_items-loop-node : goal.invariant-are_items-loop-node
invariant-are_items-loop-node l = is_planned (items_view l.fn.items) (row l.nodes) ≡ is_planned (items_view l.items) (row (drop l.node-index l.nodes))
