use Rattle.std.proofs.Common.{subst, arith, to_z, of_z, to_z-of_z, w64, ◌≡◌, ◌∙◌, sym}
use Rattle.min_traverse.proofs.Joining.{does_none, does_some}
use Rattle.rules.specs.Expressions.Operations.{fold_to_negative}
use Rattle.min_expressions.proofs.Negative.{minus_on, none_there, some_there}
use Rattle.min_expressions.proofs.fold.fold_to_negative.Goals as goal

pub returns-in_ok-put_negative-in-Some-clause-does : goal.returns-in_ok-put_negative-in-Some-clause-does
returns-in_ok-put_negative-in-Some-clause-does c =
    let same : to_z w64 (of_z w64 c.in-Some.magnitude) ≡ c.in-Some.magnitude = grind (arith, to_z-of_z) in
    let put = subst (λ m. c.put_negative.new.node ≡ minus_on c.args.node.now.note m) same c.in_ok-put_negative-in-Some.ensures.put in
    does_some fold_to_negative c.args.ctx.now c.args.node.now c.put_negative.new.node
    (some_there c.args.node.now.note _ c.in-Some.magnitude c.put_negative.new.node (sym c.in_ok-magnitude.ensures ∙ c.in-Some.is) put)
    c.in_ok-put_negative-in-Some.ensures.edited

pub returns-in-None-clause-does : goal.returns-in-None-clause-does
returns-in-None-clause-does c =
    does_none fold_to_negative c.args.ctx.now c.args.node.now (none_there c.args.node.now.note _ (sym c.in_ok-magnitude.ensures ∙ c.in-None.is))
