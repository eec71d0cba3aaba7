use Rattle.std.proofs.Common.{◌+◌, ◌*◌, take, flat_map}
use Rattle.js_tree.specs.Weight.{tree_size}
use Rattle.json_entries.specs.Entry.{entry_view}
use Rattle.json_write.specs.Tokens.{IsAppended, child_tokens, entry_tokens}
use Rattle.js_tree.proofs.Sizes.{child_size}
use Rattle.json_write.proofs.node.+write.Given as goal

-- the size of the tree, and then how near a function is to going down
abbrev pub decreases-write_node : goal.decreases-write_node
decreases-write_node l = 8 * tree_size l.node.now + 6

abbrev pub decreases-write_list : goal.decreases-write_list
decreases-write_list l = 8 * tree_size l.node.now + 5

abbrev pub decreases-write_items : goal.decreases-write_items
decreases-write_items l = 8 * tree_size l.node.now + 4

abbrev pub decreases-write_object : goal.decreases-write_object
decreases-write_object l = 8 * tree_size l.node.now + 5

abbrev pub decreases-write_entries : goal.decreases-write_entries
decreases-write_entries l = 8 * tree_size l.node.now + 4

abbrev pub decreases-write_entry : goal.decreases-write_entry
decreases-write_entry l = 8 * tree_size l.node.now + 3

abbrev pub decreases-write_child_field : goal.decreases-write_child_field
decreases-write_child_field l = 8 * tree_size l.node.now + 2

abbrev pub decreases-write_key_field : goal.decreases-write_key_field
decreases-write_key_field l = 8 * tree_size l.node.now + 2

abbrev pub decreases-write_key : goal.decreases-write_key
decreases-write_key l = 8 * tree_size l.node.now + 1

abbrev pub decreases-write_child_at : goal.decreases-write_child_at
decreases-write_child_at l = 8 * tree_size l.node.now

abbrev pub decreases-write_child : goal.decreases-write_child
decreases-write_child l = 8 * child_size l.child.now + 7

abbrev pub invariant-write_items-loop-child : goal.invariant-write_items-loop-child
invariant-write_items-loop-child l = IsAppended l.initial.out l.out (flat_map child_tokens (take l.child-index l.child-items))

abbrev pub invariant-write_entries-loop-entry : goal.invariant-write_entries-loop-entry
invariant-write_entries-loop-entry l = IsAppended l.initial.out l.out (flat_map (λ e. entry_tokens l.node (entry_view e)) (take l.entry-index l.entry-items))
