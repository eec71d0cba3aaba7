use Rattle.std.proofs.Common.{◌∙◌, Some, None, drop, length, sym, ap, ap₂, arith}
use Rattle.js_syntax.specs.declared.node_kind.NodeKind.TheVariants.{TemplateLiteral as template_literal}
use Rattle.js_syntax.specs.Node.{Tree, row}
use Rattle.rules.specs.Expressions.Lists.{new_note}
use Rattle.min_expressions.specs.Textless.{textless_row}
use Rattle.min_expressions.proofs.Textless.{its_texts, texts_edits, written}
use Rattle.min_expressions.proofs.texts.empty_texts.Goals as goal

pub returns-clause-kept : goal.returns-clause-kept
returns-clause-kept c =
    let w = its_texts c.args.node.now.kind c.args.node.now.below c.requires.texts in
    w.becomes (new_note c.args.node.now.note)
    ∙ ap Some (sym (c.replace_expression.ensures.put ∙ c.new-template.ensures
    ∙ ap₂ {C = Tree} (λ p b. record { kind = template_literal; note = record { span = p; id = None }; below = b }) c.span-span.ensures
    (ap row (written c.replace_children-children.result.len c.empty_first.new.children (drop (length c.empty_first.new.children) c.replace_children-children.result.items) (omega (arith, c.empty_first.auto.children, c.as_mut_slice.ensures.len)))
    ∙ c.empty_first.ensures ∙ ap textless_row (ap row c.as_mut_slice.ensures.value ∙ c.replace_children-children.ensures.taken))))

pub returns-clause-edited : goal.returns-clause-edited
returns-clause-edited c =
    let w = its_texts c.args.node.now.kind c.args.node.now.below c.requires.texts in
    texts_edits c.args.node.now (record { span = c.span-span.result; id = None }) w
    (c.replace_expression.ensures.put ∙ c.new-template.ensures
    ∙ ap {B = Tree} (λ b. record { kind = template_literal; note = record { span = c.span-span.result; id = None }; below = b })
    (ap row (written c.replace_children-children.result.len c.empty_first.new.children (drop (length c.empty_first.new.children) c.replace_children-children.result.items) (omega (arith, c.empty_first.auto.children, c.as_mut_slice.ensures.len)))
    ∙ c.empty_first.ensures ∙ ap textless_row (ap row c.as_mut_slice.ensures.value ∙ c.replace_children-children.ensures.taken)))
    c.replace_children-children.ensures.kind c.replace_children-children.ensures.note (c.replace_children-children.ensures.below ∙ ap row c.new.ensures.items) c.replace_expression.ensures.dropped
