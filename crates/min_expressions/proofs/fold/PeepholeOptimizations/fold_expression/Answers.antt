use Rattle.std.proofs.Common.{◌∙◌, sym, ap, subst}
use Rattle.std.proofs.lemmas.Result.{IfOk-weaker, IfErr-weaker}
use Rattle.min_traverse.specs.Lawful.{Rule, Does, either}
use Rattle.min_traverse.proofs.Joining.{first_does, then_does, does_none}
use Rattle.rules.specs.Expressions.Known.{fold_conditional, fold_logical, at_expression_end}
use Rattle.rules.specs.Expressions.Unused.{fold_unused}
use Rattle.rules.specs.Expressions.Lists.{fold_unused_list}
use Rattle.rules.specs.Expressions.Indirect.{fold_indirect}
use Rattle.rules.specs.Expressions.OneSided.{fold_one_sided}
use Rattle.rules.specs.Expressions.Sequences.{fold_sequence}
use Rattle.rules.specs.Expressions.TwoSides.{fold_two_sides}
use Rattle.rules.specs.Expressions.Objects.{fold_object}
use Rattle.rules.specs.Expressions.Operations.{fold_known}
use Rattle.min_expressions.specs.Foldable.{may_fold}
use Rattle.min_expressions.proofs.Behind.{nothing_done}
use Rattle.min_expressions.proofs.Passed.{nothing_becomes}
use Rattle.min_expressions.proofs.fold.PeepholeOptimizations.fold_expression.Goals as goal

-- the rules that are tried before
abbrev others : Rule
others = either (either (either (either (either (either (either (either fold_conditional fold_logical) fold_unused) fold_unused_list) fold_indirect) fold_one_sided) fold_sequence) fold_two_sides) fold_object

pub returns-then-not-may_fold-clause-does : goal.returns-then-not-may_fold-clause-does
returns-then-not-may_fold-clause-does c =
    let node = c.args.node.now in
    does_none at_expression_end c.args.ctx.now node (nothing_becomes c.args.ctx.now node.kind node.note node.below (ap may_fold (sym c.kind.ensures) ∙ sym c.may_fold.ensures ∙ c.if-not-may_fold.true))

pub returns-then-branch-clause-does : goal.returns-then-branch-clause-does
returns-then-branch-clause-does c =
    let at = c.fold_but_operations in
    first_does others fold_known (subst (λ b. Does others c.args.ctx.now c.args.node.now b at.new.ctx at.new.node) c.if-branch.true c.in_ok-fold_but_operations.ensures.does)

pub returns-clause-does : goal.returns-clause-does
returns-clause-does c =
    let at = c.fold_but_operations in
    IfOk-weaker c.fold_known_operation.result _ _ (λ b. then_does others fold_known (subst (λ a. Does others c.args.ctx.now c.args.node.now a at.new.ctx at.new.node) c.if-branch.false c.in_ok-fold_but_operations.ensures.does)) c.fold_known_operation.ensures.does

pub returns-clause-refused : goal.returns-clause-refused
returns-clause-refused c =
    let at = c.fold_but_operations in
    let same = nothing_done others (subst (λ a. Does others c.args.ctx.now c.args.node.now a at.new.ctx at.new.node) c.if-branch.false c.in_ok-fold_but_operations.ensures.does) in
    IfErr-weaker c.fold_known_operation.result _ _ (λ e h. (h.0 ∙ same.0, h.1 ∙ same.1)) c.fold_known_operation.ensures.refused
