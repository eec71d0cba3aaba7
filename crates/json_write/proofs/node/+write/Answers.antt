use Rattle.std.proofs.Common.{◌∙◌, flat_map, ap, sym, arith}
use Rattle.std.proofs.lemmas.Bool.{ltb-true, ltb-false}
use Rattle.std.proofs.lemmas.List.{take_all}
use Rattle.std.proofs.lemmas.List.Folds.{flat_map-map}
use Rattle.json_text.specs.Text.{row_datas}
use Rattle.json_entries.specs.Entry.{entry_view}
use Rattle.json_entries.specs.Entries.{entries_of}
use Rattle.json_write.specs.Tokens.{data_tokens, child_data, child_tokens, entry_tokens}
use Rattle.json_write.proofs.Appending.{one, ◌then◌, appended}
use Rattle.json_write.proofs.Parts.{datas_children, list_tokens, child_at_place, no_child_at_place}
use Rattle.js_tree.proofs.Sizes.{item_smaller}
use Rattle.json_write.proofs.node.+write.Goals as goal

-- ---- children

pub write_child_at-write_child-requires : goal.write_child_at-write_child-requires
write_child_at-write_child-requires z c =
    let smaller = rw c.children.ensures at (item_smaller c.children.result.now c.args.at c.in-Some.child.now (ltb-true c.args.at _ (sym c.in-Some.ensures.lookup.0)) c.in-Some.ensures.lookup.1) in
    (omega (arith, smaller), tt)

pub write_child_at-returns-in-Some : goal.write_child_at-returns-in-Some
write_child_at-returns-in-Some z c = rw (← c.children.ensures, ← child_at_place c.children.result.now c.args.at c.in-Some.child.now (ltb-true c.args.at _ (sym c.in-Some.ensures.lookup.0)) c.in-Some.ensures.lookup.1) c.write_child.ensures

pub write_child_at-returns-in-None : goal.write_child_at-returns-in-None
write_child_at-returns-in-None z c = rw (← c.children.ensures, ← no_child_at_place c.children.result.now c.args.at (ltb-false c.args.at _ (sym c.in-None.ensures.lookup.0))) c.write_null.ensures

-- ---- lists

pub write_items-write_child-requires : goal.write_items-write_child-requires
write_items-write_child-requires z c =
    let smaller = rw c.children-child-items.ensures at (item_smaller c.children-child-items.result.now c.loop-child.child-index c.child-item.result c.loop-child-test.true c.child-item.is) in
    (omega (arith, smaller), tt)

pub write_items-returns : goal.write_items-returns
write_items-returns z c =
    let items = c.children-child-items.result.now in
    appended c.loop-child.invariant
    (ap (flat_map child_tokens) (take_all c.loop-child.child-index items (omega (arith, c.loop-child-test.false))) ∙ sym (flat_map-map data_tokens child_data items)
    ∙ ap (flat_map data_tokens) (sym (datas_children items) ∙ ap row_datas c.children-child-items.ensures))

pub write_list-returns : goal.write_list-returns
write_list-returns z c =
    appended (one c.in_ok-begin_array.ensures then c.in_ok-write_items.ensures then one c.in_ok-end_array.ensures) (list_tokens (row_datas c.args.node.now.below))

-- ---- fields

pub write_entries-returns : goal.write_entries-returns
write_entries-returns z c =
    let items = c.entries-entry-items.result.now in
    appended c.loop-entry.invariant
    (ap (flat_map (λ e. entry_tokens c.args.node.now (entry_view e))) (take_all c.loop-entry.entry-index items (omega (arith, c.loop-entry-test.false)))
    ∙ sym (flat_map-map (entry_tokens c.args.node.now) entry_view items) ∙ ap (flat_map (entry_tokens c.args.node.now)) (c.entries-entry-items.ensures ∙ ap entries_of c.kind.ensures))
