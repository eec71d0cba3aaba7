use Rattle.std.proofs.Common.{◌∙◌, Some, sym, ap}
use Rattle.min_traverse.proofs.Joining.{does_none, does_some}
use Rattle.rules.specs.Expressions.Operations.{literal_there, fold_to_literal}
use Rattle.min_expressions.proofs.fold.fold_to_literal.Goals as goal

pub returns-in-Some-clause-does : goal.returns-in-Some-clause-does
returns-in-Some-clause-does c =
    does_some fold_to_literal c.args.ctx.now c.args.node.now c.put_literal.new.node
    (ap (literal_there c.args.node.now.note) (sym c.in_ok-value.ensures ∙ c.in-Some.is) ∙ ap Some (sym c.put_literal.ensures.put))
    c.put_literal.ensures.edited

pub returns-in-None-clause-does : goal.returns-in-None-clause-does
returns-in-None-clause-does c =
    does_none fold_to_literal c.args.ctx.now c.args.node.now (ap (literal_there c.args.node.now.note) (sym c.in_ok-value.ensures ∙ c.in-None.is))
