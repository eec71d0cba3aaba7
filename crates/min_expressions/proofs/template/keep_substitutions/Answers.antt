use Rattle.std.proofs.Common.{rules, ◌≡◌, ◌∙◌, length, vec_len, drop, Some, None, sym, ap, ap₂, subst, arith}
use Rattle.js_syntax.specs.Node.{Tree, Note, row}
use Rattle.scope_counts.specs.Counts.{ids}
use Rattle.min_context.specs.Edited.{evals, Leaves}
use Rattle.rules.specs.Expressions.Lists.{new_note, list_note}
use Rattle.steps.specs.Allowed.UnusedList.{acting, as_one}
use Rattle.min_expressions.specs.Lists.{are_one, idle}
use Rattle.min_expressions.proofs.Lists.{sequence_list, its_row, left_row, its_list}
use Rattle.min_expressions.proofs.Templates.{is_template, becomes_so, its_items, its_span, its_note, texts_gone, list_alone, template_edits}
use Rattle.min_expressions.proofs.template.keep_substitutions.Goals as goal

pub remove-texts-requires : goal.remove-texts-requires
remove-texts-requires c =
    let w = is_template c.args.node.now.kind c.args.node.now.below c.requires.goes in
    let same : vec_len c.replace_children-children.result ≡ length c.replace_children-children.result.items = search rules in
    omega (arith, same, ap length (its_items w c.replace_children-children.result.items c.replace_children-children.ensures.taken))

pub take_at-requires : goal.take_at-requires
take_at-requires c =
    let w = is_template c.args.node.now.kind c.args.node.now.below c.requires.goes in
    omega (arith, its_row (sequence_list w.list_note_is w.parts) _ _ (list_alone w _ _ c.replace_children-children.ensures.taken c.remove-texts.ensures.items) c.as_mut_slice.ensures.value)

pub left_of_parts-left-requires-clause-field : goal.left_of_parts-left-requires-clause-field
left_of_parts-left-requires-clause-field c =
    let w = is_template c.args.node.now.kind c.args.node.now.below c.requires.goes in
    left_row (sequence_list w.list_note_is w.parts) c.remove-texts.new.self.len c.remove-texts.new.self.items c.as_mut_slice.result.now c.take_at.new.children (drop (length c.take_at.new.children) c.remove-texts.new.self.items)
    (list_alone w _ _ c.replace_children-children.ensures.taken c.remove-texts.ensures.items) c.as_mut_slice.ensures.value (omega (arith, c.as_mut_slice.ensures.len, ap length c.as_mut_slice.ensures.value)) c.take_at.auto.children

pub left_of_parts-left-requires-clause-one : goal.left_of_parts-left-requires-clause-one
left_of_parts-left-requires-clause-one c =
    let w = is_template c.args.node.now.kind c.args.node.now.below c.requires.goes in
    ap (λ t. are_one (acting t)) (c.into_children.ensures ∙ ap {A = Tree} (λ l. l.below) (its_list (sequence_list w.list_note_is w.parts) (list_alone w _ _ c.replace_children-children.ensures.taken c.remove-texts.ensures.items) c.as_mut_slice.ensures.value c.take_at.ensures.taken c.in-Some.is)) ∙ w.is_one

pub returns-in-Some-clause-kept : goal.returns-in-Some-clause-kept
returns-in-Some-clause-kept c =
    let w = is_template c.args.node.now.kind c.args.node.now.below c.requires.goes in
    let parts_are = c.into_children.ensures ∙ ap {A = Tree} (λ l. l.below) (its_list (sequence_list w.list_note_is w.parts) (list_alone w _ _ c.replace_children-children.ensures.taken c.remove-texts.ensures.items) c.as_mut_slice.ensures.value c.take_at.ensures.taken c.in-Some.is) in
    becomes_so (new_note c.args.node.now.note) (new_note (list_note c.args.node.now.below)) c.args.node.now.kind c.args.node.now.below w
    ∙ ap₂ (λ p q. as_one (record { span = p; id = None }) (record { span = q; id = None }) (acting w.parts)) (sym c.span-span.ensures) (ap {A = Note} (λ n. n.span) (its_note w) ∙ sym (its_span w c.args.node.now.note) ∙ sym c.first_span-list_span.ensures)
    ∙ ap (λ t. as_one (record { span = c.span-span.result; id = None }) (record { span = c.first_span-list_span.result; id = None }) (acting t)) (sym parts_are) ∙ c.left_of_parts-left.ensures.kept ∙ ap Some (sym c.replace_expression.ensures.put)

pub returns-in-Some-clause-edited : goal.returns-in-Some-clause-edited
returns-in-Some-clause-edited c =
    let w = is_template c.args.node.now.kind c.args.node.now.below c.requires.goes in
    let parts_are = c.into_children.ensures ∙ ap {A = Tree} (λ l. l.below) (its_list (sequence_list w.list_note_is w.parts) (list_alone w _ _ c.replace_children-children.ensures.taken c.remove-texts.ensures.items) c.as_mut_slice.ensures.value c.take_at.ensures.taken c.in-Some.is) in
    template_edits c.args.node.now w (record { span = c.span-span.result; id = None }) (record { span = c.first_span-list_span.result; id = None })
    (ap (λ t. as_one (record { span = c.span-span.result; id = None }) (record { span = c.first_span-list_span.result; id = None }) (acting t)) (sym parts_are) ∙ c.left_of_parts-left.ensures.kept ∙ ap Some (sym c.replace_expression.ensures.put))
    c.replace_children-children.ensures.kind c.replace_children-children.ensures.note (c.replace_children-children.ensures.below ∙ ap row c.new.ensures.items)
    (texts_gone w c.replace_children-children.result.items c.remove-texts.result c.replace_children-children.ensures.taken c.remove-texts.ensures.value c.mark_branch.ensures.left)
    (subst (λ t. Leaves c.mark_branch.new.ctx (λ r. ids r (idle t)) (evals (idle t)) c.left_of_parts-left.new.ctx) parts_are c.left_of_parts-left.ensures.left)
    c.replace_expression.ensures.dropped
