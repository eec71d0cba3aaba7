use Rattle.std.proofs.Common.{◌∙◌, Bool, sym, subst}
use Rattle.min_statements.specs.Merged.{ListComes}
use Rattle.min_statements.proofs.Merging.{merges_none, merges_not, merges_so}
use Rattle.min_statements.proofs.merged.merge_module_imports.Goals as goal

pub returns-then-not-may_come_together-clause-does : goal.returns-then-not-may_come_together-clause-does
returns-then-not-may_come_together-clause-does c = merges_none c.args.names.now c.args.ctx.now c.args.node.now (sym c.if-not-may_come_together.true ∙ c.may_come_together.ensures)

pub returns-then-not-branch-clause-does : goal.returns-then-not-branch-clause-does
returns-then-not-branch-clause-does c =
    merges_not c.args.names.now c.args.ctx.now c.args.node.now (sym c.if-not-may_come_together.false ∙ c.may_come_together.ensures) c.merge_below.new.node c.merge_below.ensures.kind c.merge_below.ensures.note
    (subst (λ (b : Bool). ListComes c.args.node.now.below b c.merge_below.new.node.below) c.if-not-branch.true c.in_ok-merge_below.ensures.comes)

pub returns-clause-does : goal.returns-clause-does
returns-clause-does c =
    merges_so c.args.names.now c.args.ctx.now c.args.node.now (sym c.if-not-may_come_together.false ∙ c.may_come_together.ensures) c.notice_change.new.self c.merge_below.new.node c.merge_below.ensures.kind c.merge_below.ensures.note
    (subst (λ (b : Bool). ListComes c.args.node.now.below b c.merge_below.new.node.below) c.if-not-branch.false c.in_ok-merge_below.ensures.comes) c.notice_change.ensures.requested
