use Rattle.std.proofs.Common.{◌∙◌, Some, None, sym, ap, ap₂}
use Rattle.js_syntax.specs.Node.{Tree, row}
use Rattle.rules.specs.Expressions.Lists.{new_note}
use Rattle.min_expressions.proofs.Lists.{made, in_turn_edits}
use Rattle.min_expressions.proofs.TwoSides.{is_compared}
use Rattle.min_expressions.proofs.two_sides.keep_two_sides.Goals as goal

pub returns-clause-kept : goal.returns-clause-kept
returns-clause-kept c =
    let w = is_compared c.args.node.now.kind c.args.node.now.below c.requires.both in
    w.becomes (new_note c.args.node.now.note) (new_note c.args.node.now.note)
    ∙ ap Some (sym (c.replace_expression.ensures.put ∙ c.sequence-kept.ensures ∙ ap₂ {C = Tree} (λ p b. made (record { span = p; id = None }) (record { span = p; id = None }) b) c.span-span.ensures c.replace_children-sides.ensures.taken))

pub returns-clause-edited : goal.returns-clause-edited
returns-clause-edited c =
    let w = is_compared c.args.node.now.kind c.args.node.now.below c.requires.both in
    in_turn_edits c.args.node.now (record { span = c.span-span.result; id = None }) (record { span = c.span-span.result; id = None }) w
    (c.replace_expression.ensures.put ∙ c.sequence-kept.ensures ∙ ap {B = Tree} (made (record { span = c.span-span.result; id = None }) (record { span = c.span-span.result; id = None })) c.replace_children-sides.ensures.taken)
    c.replace_children-sides.ensures.kind c.replace_children-sides.ensures.note (c.replace_children-sides.ensures.below ∙ ap row c.new.ensures.items) c.replace_expression.ensures.dropped
