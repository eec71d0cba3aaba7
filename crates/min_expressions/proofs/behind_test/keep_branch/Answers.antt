use Rattle.std.proofs.Common.{rules, ◌≡◌, ◌∙◌, length, vec_len, Some, None, sym, ap, ap₂, arith}
use Rattle.js_syntax.specs.Node.{Forest, Tree, row}
use Rattle.rules.specs.Expressions.Lists.{new_note}
use Rattle.min_expressions.proofs.BehindTest.{is_tested, is_there, branch_gone, two_left, tested_edits}
use Rattle.min_expressions.proofs.Lists.{made}
use Rattle.min_expressions.proofs.behind_test.keep_branch.Goals as goal

pub remove-branch-requires : goal.remove-branch-requires
remove-branch-requires c =
    let w = is_tested c.args.node.now.kind c.args.node.now.below c.args.at c.requires.one in
    let same : vec_len c.replace_children-children.result ≡ length c.replace_children-children.result.items = search rules in
    omega (arith, same, is_there w c.replace_children-children.result.items c.replace_children-children.ensures.taken)

pub returns-clause-kept : goal.returns-clause-kept
returns-clause-kept c =
    let w = is_tested c.args.node.now.kind c.args.node.now.below c.args.at c.requires.one in
    w.becomes (new_note c.args.node.now.note) (new_note c.args.node.now.note)
    ∙ ap Some (sym (c.replace_expression.ensures.put ∙ c.sequence-kept.ensures
    ∙ ap₂ {C = Tree} (λ p b. made (record { span = p; id = None }) (record { span = p; id = None }) b) c.span-span.ensures
    (ap row c.remove-branch.ensures.items ∙ two_left w c.replace_children-children.result.items c.replace_children-children.ensures.taken)))

pub returns-clause-edited : goal.returns-clause-edited
returns-clause-edited c =
    let w = is_tested c.args.node.now.kind c.args.node.now.below c.args.at c.requires.one in
    tested_edits c.args.node.now c.args.at w (record { span = c.span-span.result; id = None }) (record { span = c.span-span.result; id = None })
    (c.replace_expression.ensures.put ∙ c.sequence-kept.ensures ∙ ap {A = Forest} {B = Tree} (made (record { span = c.span-span.result; id = None }) (record { span = c.span-span.result; id = None }))
    (ap row c.remove-branch.ensures.items ∙ two_left w c.replace_children-children.result.items c.replace_children-children.ensures.taken))
    (branch_gone w c.replace_children-children.result.items c.remove-branch.result c.replace_children-children.ensures.taken c.remove-branch.ensures.value)
    c.replace_children-children.ensures.kind c.replace_children-children.ensures.note (c.replace_children-children.ensures.below ∙ ap row c.new.ensures.items) c.mark_branch.ensures.left c.replace_expression.ensures.dropped
