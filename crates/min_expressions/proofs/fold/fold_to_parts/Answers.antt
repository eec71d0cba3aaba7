use Rattle.std.proofs.Common.{◌∙◌, subst}
use Rattle.std.proofs.lemmas.Result.{IfOk-weaker, IfErr-weaker}
use Rattle.min_traverse.specs.Lawful.{Rule, Does, either}
use Rattle.min_traverse.proofs.Joining.{first_does, then_does}
use Rattle.rules.specs.Expressions.Known.{fold_conditional, fold_logical}
use Rattle.rules.specs.Expressions.Unused.{fold_unused}
use Rattle.rules.specs.Expressions.Lists.{fold_unused_list}
use Rattle.rules.specs.Expressions.Indirect.{fold_indirect}
use Rattle.min_expressions.proofs.Behind.{nothing_done}
use Rattle.min_expressions.proofs.fold.fold_to_parts.Goals as goal

-- the rules that take no memory
abbrev others : Rule
others = either (either (either fold_conditional fold_logical) fold_unused) fold_unused_list

pub returns-then-fold_without_memory-clause-does : goal.returns-then-fold_without_memory-clause-does
returns-then-fold_without_memory-clause-does c =
    let at = c.fold_without_memory in
    first_does others fold_indirect (subst (λ b. Does others c.args.ctx.now c.args.node.now b at.new.ctx at.new.node) c.if-fold_without_memory.true at.ensures)

pub returns-clause-does : goal.returns-clause-does
returns-clause-does c =
    let at = c.fold_without_memory in
    IfOk-weaker c.fold_indirect.result _ _ (λ b. then_does others fold_indirect (subst (λ a. Does others c.args.ctx.now c.args.node.now a at.new.ctx at.new.node) c.if-fold_without_memory.false at.ensures)) c.fold_indirect.ensures.does

pub returns-clause-refused : goal.returns-clause-refused
returns-clause-refused c =
    let at = c.fold_without_memory in
    let same = nothing_done others (subst (λ a. Does others c.args.ctx.now c.args.node.now a at.new.ctx at.new.node) c.if-fold_without_memory.false at.ensures) in
    IfErr-weaker c.fold_indirect.result _ _ (λ e h. (h.0 ∙ same.0, h.1 ∙ same.1)) c.fold_indirect.ensures.refused
