use Rattle.std.proofs.Common.{◌∙◌, drop, length, ap, sym, arith}
use Rattle.std.specs.List.{items_where_true}
use Rattle.js_syntax.specs.Node.{row}
use Rattle.min_imports.specs.Merging.{overlaid}
use Rattle.min_imports.proofs.Overlaid.{row_same, written}
use Rattle.min_imports.proofs.Staying.{same_tree}
use Rattle.min_imports.proofs.merged.merge_items.Goals as goal

pub put_changed-requires : goal.put_changed-requires
put_changed-requires c = c.requires.even ∙ ap length (sym (c.as_mut_slice.ensures.value ∙ row_same _ _ (c.replace_children-items.ensures.taken ∙ sym c.requires.are)))

pub keep_staying-requires : goal.keep_staying-requires
keep_staying-requires c =
    let same = row_same _ _ (c.replace_children-items.ensures.taken ∙ sym c.requires.are) in
    let put = written c.replace_children-items.result.len c.put_changed.new.items (drop (length c.put_changed.new.items) c.replace_children-items.result.items) (omega (arith, c.put_changed.auto.items, c.as_mut_slice.ensures.len)) in
    omega (arith, c.requires.long, ap length same, ap length c.as_mut_slice.ensures.value, c.put_changed.auto.items, ap length put)

pub returns : goal.returns
returns c =
    let same = row_same _ _ (c.replace_children-items.ensures.taken ∙ sym c.requires.are) in
    let put = written c.replace_children-items.result.len c.put_changed.new.items (drop (length c.put_changed.new.items) c.replace_children-items.result.items) (omega (arith, c.put_changed.auto.items, c.as_mut_slice.ensures.len)) in
    same_tree _ c.args.node.now _ (c.replace_children.ensures.kind ∙ c.replace_children-items.ensures.kind) (c.replace_children.ensures.note ∙ c.replace_children-items.ensures.note)
    (c.replace_children.ensures.below
    ∙ ap row (c.keep_staying.ensures ∙ ap (items_where_true c.args.staying.now) (put ∙ c.put_changed.ensures ∙ ap (λ l. overlaid l c.args.changed.now) (c.as_mut_slice.ensures.value ∙ same)))
    ∙ c.requires.left)
