use Rattle.std.proofs.Common.{◌∙◌, sym}
use Rattle.min_traverse.proofs.Joining.{does_none}
use Rattle.rules.specs.Expressions.Indirect.{fold_behind_test}
use Rattle.rules.specs.Expressions.Lists.{new_note}
use Rattle.min_expressions.proofs.BehindTest.{nothing_follows}
use Rattle.min_expressions.proofs.fold.PeepholeOptimizations.put_behind_test.Goals as goal

pub returns-clause-does : goal.returns-clause-does
returns-clause-does c =
    let there = new_note c.args.node.now.note in
    does_none fold_behind_test c.args.ctx.now c.args.node.now
    (nothing_follows there there c.args.node.now.kind c.args.node.now.below (sym c.branch_leaves.ensures ∙ c.in_default.is) (sym c.right_follows.ensures ∙ c.if-right_follows.false))
