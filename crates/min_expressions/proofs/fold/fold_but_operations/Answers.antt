use Rattle.std.proofs.Common.{◌∙◌, subst}
use Rattle.std.proofs.lemmas.Result.{IfOk-weaker, IfErr-weaker}
use Rattle.min_traverse.specs.Lawful.{Rule, Does, either}
use Rattle.min_traverse.proofs.Joining.{first_does, then_does}
use Rattle.rules.specs.Expressions.Known.{fold_conditional, fold_logical}
use Rattle.rules.specs.Expressions.Unused.{fold_unused}
use Rattle.rules.specs.Expressions.Lists.{fold_unused_list}
use Rattle.rules.specs.Expressions.Indirect.{fold_indirect}
use Rattle.rules.specs.Expressions.OneSided.{fold_one_sided}
use Rattle.rules.specs.Expressions.Sequences.{fold_sequence}
use Rattle.rules.specs.Expressions.TwoSides.{fold_two_sides}
use Rattle.rules.specs.Expressions.Objects.{fold_object}
use Rattle.min_expressions.proofs.Behind.{nothing_done}
use Rattle.min_expressions.proofs.fold.fold_but_operations.Goals as goal

-- the rules that are tried before
abbrev others : Rule
others = either (either (either (either (either (either (either fold_conditional fold_logical) fold_unused) fold_unused_list) fold_indirect) fold_one_sided) fold_sequence) fold_two_sides

pub returns-then-branch-clause-does : goal.returns-then-branch-clause-does
returns-then-branch-clause-does c =
    let at = c.fold_but_objects in
    first_does others fold_object (subst (λ b. Does others c.args.ctx.now c.args.node.now b at.new.ctx at.new.node) c.if-branch.true c.in_ok-fold_but_objects.ensures.does)

pub returns-clause-does : goal.returns-clause-does
returns-clause-does c =
    let at = c.fold_but_objects in
    IfOk-weaker c.remove_unused_object.result _ _ (λ b. then_does others fold_object (subst (λ a. Does others c.args.ctx.now c.args.node.now a at.new.ctx at.new.node) c.if-branch.false c.in_ok-fold_but_objects.ensures.does)) c.remove_unused_object.ensures.does

pub returns-clause-refused : goal.returns-clause-refused
returns-clause-refused c =
    let at = c.fold_but_objects in
    let same = nothing_done others (subst (λ a. Does others c.args.ctx.now c.args.node.now a at.new.ctx at.new.node) c.if-branch.false c.in_ok-fold_but_objects.ensures.does) in
    IfErr-weaker c.remove_unused_object.result _ _ (λ e h. (h.0 ∙ same.0, h.1 ∙ same.1)) c.remove_unused_object.ensures.refused
