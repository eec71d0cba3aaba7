use Rattle.std.proofs.Common.{◌≡◌, ◌∙◌, length, is_some, Some, None, true, sym, ap, subst, refl, arith}
use Rattle.std.specs.Option.{option_map}
use Rattle.js_syntax.specs.Node.{Tree, row}
use Rattle.min_expressions.specs.Kept.{child_at}
use Rattle.min_expressions.specs.Indirect.{put_behind}
use Rattle.min_expressions.proofs.Behind.{edited_behind}
use Rattle.min_expressions.proofs.Leaving.{is_within, found, not_none, edits}
use Rattle.min_expressions.proofs.indirect.keep_behind_zero.Goals as goal

pub take_out-requires : goal.take_out-requires
take_out-requires c =
    let there = subst (λ t. is_some (child_at c.args.at t) ≡ true) (sym c.replace_children-children.ensures.taken) c.requires.there in
    omega (arith, is_within c.replace_children-children.result.items c.args.at there, ap length c.as_mut_slice.ensures.value)

pub returns-in-Some-clause-kept : goal.returns-in-Some-clause-kept
returns-in-Some-clause-kept c =
    ap (option_map (put_behind c.args.node.now.note)) (found c.args.at c.replace_children-children.ensures.taken c.as_mut_slice.ensures.value c.take_out.ensures.taken c.in-Some.is)
    ∙ ap Some (sym (c.replace_expression.ensures.put ∙ c.behind_zero-kept.ensures ∙ ap {B = Tree} (λ p. put_behind (record { span = p; id = None }) c.in-Some.part) c.span-span.ensures))

pub returns-in-Some-clause-edited : goal.returns-in-Some-clause-edited
returns-in-Some-clause-edited c =
    edited_behind (record { span = c.span-span.result; id = None }) c.replace_expression.ensures.put c.behind_zero-kept.ensures
    (edits c.args.at c.replace_children-children.ensures.taken c.as_mut_slice.ensures.value c.take_out.ensures.taken c.in-Some.is refl c.requires.call
    c.replace_children-children.ensures.kind c.replace_children-children.ensures.note (c.replace_children-children.ensures.below ∙ ap row c.new.ensures.items)
    c.take_out.ensures.left c.replace_expression.ensures.dropped)

pub returns-in_default-clause-kept : goal.returns-in_default-clause-kept
returns-in_default-clause-kept c = not_none c.args.at c.replace_children-children.ensures.taken c.as_mut_slice.ensures.value c.requires.there c.take_out.ensures.taken c.in_default.is

pub returns-in_default-clause-edited : goal.returns-in_default-clause-edited
returns-in_default-clause-edited c = not_none c.args.at c.replace_children-children.ensures.taken c.as_mut_slice.ensures.value c.requires.there c.take_out.ensures.taken c.in_default.is
