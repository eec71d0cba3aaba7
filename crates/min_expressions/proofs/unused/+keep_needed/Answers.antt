use Rattle.std.proofs.Common.{◌∙◌, sym, arith}
use Rattle.min_expressions.proofs.Needed.{needed_there, needed_is_no_call, smaller, left_itself, left_again, edited_again}
use Rattle.min_expressions.proofs.unused.+keep_needed.Goals as goal

pub keep_needed-requires : goal.keep_needed-requires
keep_needed-requires t c =
    let next = sym c.needed_at.ensures ∙ c.in-Some.is in
    let kept = c.keep_child.new.node in
    (omega (arith, smaller c.args.at c.args.node.now.below kept c.keep_child.ensures.kept), (needed_there kept.kind kept.below c.in-Some.next next, needed_is_no_call kept.kind kept.below c.in-Some.next next))

pub returns-in-Some-clause-kept : goal.returns-in-Some-clause-kept
returns-in-Some-clause-kept t c =
    left_again c.args.at c.in-Some.next c.args.node.now.below c.keep_child.new.node c.keep_needed.new.node c.keep_child.ensures.kept (sym c.needed_at.ensures ∙ c.in-Some.is) c.keep_needed.ensures.kept

pub returns-in-Some-clause-edited : goal.returns-in-Some-clause-edited
returns-in-Some-clause-edited t c =
    edited_again c.args.at c.in-Some.next c.args.node.now c.keep_child.new.node c.keep_needed.new.node c.keep_child.ensures.kept c.keep_needed.ensures.kept c.keep_child.ensures.edited c.keep_needed.ensures.edited

pub returns-in_default-clause-kept : goal.returns-in_default-clause-kept
returns-in_default-clause-kept t c = left_itself c.args.at c.args.node.now.below c.keep_child.new.node c.keep_child.ensures.kept (sym c.needed_at.ensures ∙ c.in_default.is)
