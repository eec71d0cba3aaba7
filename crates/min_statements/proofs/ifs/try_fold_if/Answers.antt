use Rattle.std.proofs.Common.{◌∙◌, Bool, subst}
use Rattle.std.proofs.lemmas.Result.{IfOk-weaker, IfErr-weaker}
use Rattle.min_traverse.specs.Lawful.{Rule, Does, either}
use Rattle.min_traverse.proofs.Joining.{first_does, then_does}
use Rattle.rules.specs.Expressions.EmptyIfs.{fold_empty_if}
use Rattle.rules.specs.Expressions.EmptyAlternates.{fold_empty_alternate}
use Rattle.rules.specs.Expressions.Ifs.{fold_if}
use Rattle.rules.specs.Expressions.Untaken.{rid_if}
use Rattle.rules.specs.Expressions.LeftNames.{name_if}
use Rattle.min_expressions.proofs.Behind.{nothing_done}
use Rattle.min_statements.proofs.ifs.try_fold_if.Goals as goal

-- the rules that are tried before
abbrev others : Rule
others = either (either (either fold_if fold_empty_if) fold_empty_alternate) rid_if

pub returns-then-thin_if-clause-does : goal.returns-then-thin_if-clause-does
returns-then-thin_if-clause-does c =
    let at = c.thin_if in
    first_does others name_if (subst (λ (b : Bool). Does others c.args.ctx.now c.args.node.now b at.new.ctx at.new.node) c.if-thin_if.true at.ensures.does)

pub returns-clause-does : goal.returns-clause-does
returns-clause-does c =
    let at = c.thin_if in
    IfOk-weaker c.leave_names.result _ _ (λ b. then_does others name_if (subst (λ (a : Bool). Does others c.args.ctx.now c.args.node.now a at.new.ctx at.new.node) c.if-thin_if.false at.ensures.does)) c.leave_names.ensures.does

pub returns-clause-refused : goal.returns-clause-refused
returns-clause-refused c =
    let at = c.thin_if in
    let same = nothing_done others (subst (λ (a : Bool). Does others c.args.ctx.now c.args.node.now a at.new.ctx at.new.node) c.if-thin_if.false at.ensures.does) in
    IfErr-weaker c.leave_names.result _ _ (λ e h. (h.0 ∙ same.0, h.1 ∙ same.1)) c.leave_names.ensures.refused
