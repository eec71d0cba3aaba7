use Rattle.std.proofs.Common.{◌≡◌, ◌∙◌, length, is_some, Some, true, sym, ap, subst, arith}
use Rattle.js_syntax.specs.Node.{row}
use Rattle.min_expressions.specs.Kept.{child_at}
use Rattle.min_expressions.proofs.Leaving.{is_within, found, not_none, edits}
use Rattle.min_expressions.proofs.kept.keep_child.Goals as goal

pub take_out-requires : goal.take_out-requires
take_out-requires c =
    let there = subst (λ t. is_some (child_at c.args.at t) ≡ true) (sym c.replace_children-children.ensures.taken) c.requires.there in
    omega (arith, is_within c.replace_children-children.result.items c.args.at there, ap length c.as_mut_slice.ensures.value)

pub returns-in-Some-clause-kept : goal.returns-in-Some-clause-kept
returns-in-Some-clause-kept c = found c.args.at c.replace_children-children.ensures.taken c.as_mut_slice.ensures.value c.take_out.ensures.taken c.in-Some.is ∙ ap Some (sym c.replace_expression.ensures.put)

pub returns-in-Some-clause-edited : goal.returns-in-Some-clause-edited
returns-in-Some-clause-edited c =
    edits c.args.at c.replace_children-children.ensures.taken c.as_mut_slice.ensures.value c.take_out.ensures.taken c.in-Some.is c.replace_expression.ensures.put c.requires.call
    c.replace_children-children.ensures.kind c.replace_children-children.ensures.note (c.replace_children-children.ensures.below ∙ ap row c.new.ensures.items)
    c.take_out.ensures.left c.replace_expression.ensures.dropped

pub returns-clause-kept : goal.returns-clause-kept
returns-clause-kept c = not_none c.args.at c.replace_children-children.ensures.taken c.as_mut_slice.ensures.value c.requires.there c.take_out.ensures.taken c.in_default.is

pub returns-clause-edited : goal.returns-clause-edited
returns-clause-edited c = not_none c.args.at c.replace_children-children.ensures.taken c.as_mut_slice.ensures.value c.requires.there c.take_out.ensures.taken c.in_default.is
