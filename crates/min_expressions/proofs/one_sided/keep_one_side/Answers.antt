use Rattle.std.proofs.Common.{rules, ◌≡◌, ◌∙◌, length, vec_len, Some, None, sym, ap, ap₂, arith}
use Rattle.js_syntax.specs.declared.node_kind.NodeKind.TheVariants.{LogicalExpression as logical_expression}
use Rattle.js_syntax.specs.Node.{Forest, Tree, row}
use Rattle.rules.specs.Expressions.Lists.{new_note}
use Rattle.min_expressions.proofs.Sided.{is_sided, is_there, branch_gone, two_left, sided_edits}
use Rattle.min_expressions.proofs.one_sided.keep_one_side.Goals as goal

pub remove-branch-requires : goal.remove-branch-requires
remove-branch-requires c =
    let w = is_sided c.args.node.now.kind c.args.node.now.below c.args.operator c.requires.one in
    let same : vec_len c.replace_children-children.result ≡ length c.replace_children-children.result.items = search rules in
    omega (arith, same, is_there w c.replace_children-children.result.items c.leaving_at.result c.replace_children-children.ensures.taken c.leaving_at.ensures)

pub returns-clause-kept : goal.returns-clause-kept
returns-clause-kept c =
    let w = is_sided c.args.node.now.kind c.args.node.now.below c.args.operator c.requires.one in
    w.becomes (new_note c.args.node.now.note) ∙ ap Some (sym (c.replace_expression.ensures.put ∙ c.new-sides.ensures
    ∙ ap₂ {C = Tree} (λ p b. record { kind = logical_expression c.args.operator; note = record { span = p; id = None }; below = b }) c.span-span.ensures
    (ap row c.remove-branch.ensures.items ∙ two_left w c.replace_children-children.result.items c.leaving_at.result c.replace_children-children.ensures.taken c.leaving_at.ensures)))

pub returns-clause-edited : goal.returns-clause-edited
returns-clause-edited c =
    let w = is_sided c.args.node.now.kind c.args.node.now.below c.args.operator c.requires.one in
    sided_edits c.args.node.now c.args.operator w (record { span = c.span-span.result; id = None })
    (c.replace_expression.ensures.put ∙ c.new-sides.ensures ∙ ap {A = Forest} {B = Tree} (λ b. record { kind = logical_expression c.args.operator; note = record { span = c.span-span.result; id = None }; below = b })
    (ap row c.remove-branch.ensures.items ∙ two_left w c.replace_children-children.result.items c.leaving_at.result c.replace_children-children.ensures.taken c.leaving_at.ensures))
    (branch_gone w c.replace_children-children.result.items c.leaving_at.result c.remove-branch.result c.replace_children-children.ensures.taken c.leaving_at.ensures c.remove-branch.ensures.value)
    c.replace_children-children.ensures.kind c.replace_children-children.ensures.note (c.replace_children-children.ensures.below ∙ ap row c.new.ensures.items) c.mark_branch.ensures.left c.replace_expression.ensures.dropped
