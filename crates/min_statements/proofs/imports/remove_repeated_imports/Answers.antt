use Rattle.std.proofs.Common.{◌≡◌, ◌∙◌, Bool, sym, subst}
use Rattle.std.specs.Bool.{OnFalse}
use Rattle.min_statements.proofs.Repeating.{repeats_none, repeats_so}
use Rattle.min_statements.proofs.imports.remove_repeated_imports.Goals as goal

pub returns-then-not-branch-clause-does : goal.returns-then-not-branch-clause-does
returns-then-not-branch-clause-does c =
    let left = c.drop_repeated.new.node in
    repeats_none c.args.ctx.now c.args.node.now left c.requires.list (sym c.in_ok-drop_repeated.ensures.repeated ∙ c.if-not-branch.true)
    (subst (λ (b : Bool). OnFalse b (left ≡ c.args.node.now)) c.if-not-branch.true c.in_ok-drop_repeated.ensures.same)

pub returns-clause-does : goal.returns-clause-does
returns-clause-does c =
    repeats_so c.args.ctx.now c.notice_change.new.self c.args.node.now c.drop_repeated.new.node c.requires.list (sym c.in_ok-drop_repeated.ensures.repeated ∙ c.if-not-branch.false)
    c.in_ok-drop_repeated.ensures.left c.notice_change.ensures.requested
