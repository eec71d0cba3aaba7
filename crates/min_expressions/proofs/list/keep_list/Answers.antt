use Rattle.std.proofs.Common.{◌∙◌, length, drop, None, sym, ap, ap₂, arith}
use Rattle.js_syntax.specs.Node.{row}
use Rattle.rules.specs.Expressions.Lists.{new_note}
use Rattle.steps.specs.Allowed.UnusedList.{acting}
use Rattle.min_expressions.specs.Lists.{is_array, list_left, are_left}
use Rattle.min_expressions.proofs.Lists.{list_of, its_row, left_row, its_list, list_edits, list_kept}
use Rattle.min_expressions.proofs.list.keep_list.Goals as goal

pub take_at-requires : goal.take_at-requires
take_at-requires c =
    let w = list_of c.args.node.now.kind c.args.node.now.below c.requires.goes in
    omega (arith, its_row w.has _ _ c.replace_children-children.ensures.taken c.as_mut_slice.ensures.value)

pub left_of_list-left-requires-clause-field : goal.left_of_list-left-requires-clause-field
left_of_list-left-requires-clause-field c =
    let w = list_of c.args.node.now.kind c.args.node.now.below c.requires.goes in
    left_row w.has c.replace_children-children.result.len c.replace_children-children.result.items c.as_mut_slice.result.now c.take_at.new.children (drop (length c.take_at.new.children) c.replace_children-children.result.items)
    c.replace_children-children.ensures.taken c.as_mut_slice.ensures.value (omega (arith, c.as_mut_slice.ensures.len, ap length c.as_mut_slice.ensures.value)) c.take_at.auto.children

pub left_of_list-left-requires-clause-one : goal.left_of_list-left-requires-clause-one
left_of_list-left-requires-clause-one c =
    let w = list_of c.args.node.now.kind c.args.node.now.below c.requires.goes in
    ap₂ (λ b t. are_left b (acting t.below)) (c.is_array-array.ensures ∙ ap is_array c.kind.ensures) (its_list w.has c.replace_children-children.ensures.taken c.as_mut_slice.ensures.value c.take_at.ensures.taken c.in-Some.is) ∙ w.is_one

pub returns-in-Some-clause-kept : goal.returns-in-Some-clause-kept
returns-in-Some-clause-kept c =
    let w = list_of c.args.node.now.kind c.args.node.now.below c.requires.goes in
    list_kept c.args.node.now w (its_list w.has c.replace_children-children.ensures.taken c.as_mut_slice.ensures.value c.take_at.ensures.taken c.in-Some.is)
    (ap₂ (λ b p. list_left b (record { span = p; id = None }) (new_note c.in-Some.list.note) (acting c.in-Some.list.below)) (sym (c.is_array-array.ensures ∙ ap is_array c.kind.ensures)) (sym c.span-span.ensures) ∙ c.left_of_list-left.ensures.kept) c.replace_expression.ensures.put

pub returns-in-Some-clause-edited : goal.returns-in-Some-clause-edited
returns-in-Some-clause-edited c =
    let w = list_of c.args.node.now.kind c.args.node.now.below c.requires.goes in
    list_edits c.args.node.now c.is_array-array.result _ _ w.has (its_list w.has c.replace_children-children.ensures.taken c.as_mut_slice.ensures.value c.take_at.ensures.taken c.in-Some.is) c.left_of_list-left.ensures.kept c.replace_expression.ensures.put
    c.replace_children-children.ensures.kind c.replace_children-children.ensures.note (c.replace_children-children.ensures.below ∙ ap row c.new.ensures.items) c.left_of_list-left.ensures.left c.replace_expression.ensures.dropped
