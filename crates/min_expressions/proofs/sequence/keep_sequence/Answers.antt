use Rattle.std.proofs.Common.{◌∙◌, length, drop, None, sym, ap, arith}
use Rattle.js_syntax.specs.Node.{row}
use Rattle.steps.specs.Allowed.IdleParts.{more_before, counting, as_value_of}
use Rattle.rules.specs.Expressions.Lists.{new_note}
use Rattle.rules.specs.Expressions.Uses.{spot_of}
use Rattle.min_expressions.specs.Sequences.{parts_go}
use Rattle.min_expressions.proofs.Lists.{its_row, left_row, its_list}
use Rattle.min_expressions.proofs.Sequences.{is_sequence, sequence_edits, sequence_kept}
use Rattle.min_expressions.proofs.sequence.keep_sequence.Goals as goal

pub take_at-requires : goal.take_at-requires
take_at-requires c =
    let w = is_sequence (spot_of c.args.ctx.now.place) c.args.node.now.kind c.args.node.now.below c.requires.goes in
    omega (arith, its_row w.has _ _ c.replace_children-children.ensures.taken c.as_mut_slice.ensures.value)

pub left_of-left-requires-clause-field : goal.left_of-left-requires-clause-field
left_of-left-requires-clause-field c =
    let w = is_sequence (spot_of c.args.ctx.now.place) c.args.node.now.kind c.args.node.now.below c.requires.goes in
    left_row w.has c.replace_children-children.result.len c.replace_children-children.result.items c.as_mut_slice.result.now c.take_at.new.children (drop (length c.take_at.new.children) c.replace_children-children.result.items)
    c.replace_children-children.ensures.taken c.as_mut_slice.ensures.value (omega (arith, c.as_mut_slice.ensures.len, ap length c.as_mut_slice.ensures.value)) c.take_at.auto.children

pub left_of-left-requires-clause-goes : goal.left_of-left-requires-clause-goes
left_of-left-requires-clause-goes c =
    let w = is_sequence (spot_of c.args.ctx.now.place) c.args.node.now.kind c.args.node.now.below c.requires.goes in
    ap (λ t. parts_go (spot_of c.args.ctx.now.place) t.below) (its_list w.has c.replace_children-children.ensures.taken c.as_mut_slice.ensures.value c.take_at.ensures.taken c.in-Some.is) ∙ w.goes

pub returns-in-Some-clause-kept : goal.returns-in-Some-clause-kept
returns-in-Some-clause-kept c =
    let s = spot_of c.args.ctx.now.place in
    let w = is_sequence s c.args.node.now.kind c.args.node.now.below c.requires.goes in
    sequence_kept s c.args.node.now w (its_list w.has c.replace_children-children.ensures.taken c.as_mut_slice.ensures.value c.take_at.ensures.taken c.in-Some.is)
    (ap (λ p. as_value_of s.used_as s.in_with (more_before c.in-Some.list.below) (record { span = p; id = None }) (new_note c.in-Some.list.note) (counting c.in-Some.list.below)) (sym c.span-span.ensures) ∙ c.left_of-left.ensures.kept) c.replace_expression.ensures.put

pub returns-in-Some-clause-edited : goal.returns-in-Some-clause-edited
returns-in-Some-clause-edited c =
    let s = spot_of c.args.ctx.now.place in
    let w = is_sequence s c.args.node.now.kind c.args.node.now.below c.requires.goes in
    sequence_edits s c.args.node.now _ _ w.has (its_list w.has c.replace_children-children.ensures.taken c.as_mut_slice.ensures.value c.take_at.ensures.taken c.in-Some.is) c.left_of-left.ensures.kept c.replace_expression.ensures.put
    c.replace_children-children.ensures.kind c.replace_children-children.ensures.note (c.replace_children-children.ensures.below ∙ ap row c.new.ensures.items) c.left_of-left.ensures.left c.replace_expression.ensures.dropped
