use Rattle.std.proofs.Common.{◌∙◌, Some, None, length, drop, sym, ap, ap₂, arith}
use Rattle.js_syntax.specs.Node.{Tree, row}
use Rattle.rules.specs.Expressions.Lists.{new_note}
use Rattle.min_expressions.proofs.Emptied.{sum_of, has_text, is_there, text_taken, row_left, text_edits}
use Rattle.min_expressions.proofs.two_sides.empty_text.Goals as goal

pub empty_at-requires : goal.empty_at-requires
empty_at-requires c =
    let w = has_text c.args.node.now.kind c.args.node.now.below c.args.index c.requires.text in
    omega (arith, (is_there w c.replace_children-children.result.items c.replace_children-children.ensures.taken).1, ap length c.as_mut_slice.ensures.value)

pub returns-clause-kept : goal.returns-clause-kept
returns-clause-kept c =
    let w = has_text c.args.node.now.kind c.args.node.now.below c.args.index c.requires.text in
    w.becomes (new_note c.args.node.now.note) ∙ ap Some (sym (c.replace_expression.ensures.put ∙ c.new-sum.ensures
    ∙ ap₂ {C = Tree} (λ p b. sum_of (record { span = p; id = None }) b) c.span-span.ensures
    (row_left w c.replace_children-children.result.len c.replace_children-children.result.items c.as_mut_slice.result.now c.empty_at.new.children (drop (length c.empty_at.new.children) c.replace_children-children.result.items)
    c.replace_children-children.ensures.taken c.as_mut_slice.ensures.value (omega (arith, c.as_mut_slice.ensures.len, ap length c.as_mut_slice.ensures.value)) c.empty_at.auto.children c.empty_at.ensures.emptied)))

pub returns-clause-edited : goal.returns-clause-edited
returns-clause-edited c =
    let w = has_text c.args.node.now.kind c.args.node.now.below c.args.index c.requires.text in
    text_edits c.args.node.now c.args.index w (record { span = c.span-span.result; id = None })
    (c.replace_expression.ensures.put ∙ c.new-sum.ensures ∙ ap {B = Tree} (sum_of (record { span = c.span-span.result; id = None }))
    (row_left w c.replace_children-children.result.len c.replace_children-children.result.items c.as_mut_slice.result.now c.empty_at.new.children (drop (length c.empty_at.new.children) c.replace_children-children.result.items)
    c.replace_children-children.ensures.taken c.as_mut_slice.ensures.value (omega (arith, c.as_mut_slice.ensures.len, ap length c.as_mut_slice.ensures.value)) c.empty_at.auto.children c.empty_at.ensures.emptied))
    (text_taken w c.replace_children-children.result.items c.as_mut_slice.result.now c.replace_children-children.ensures.taken c.as_mut_slice.ensures.value)
    c.replace_children-children.ensures.kind c.replace_children-children.ensures.note (c.replace_children-children.ensures.below ∙ ap row c.new.ensures.items) c.empty_at.ensures.left c.replace_expression.ensures.dropped
