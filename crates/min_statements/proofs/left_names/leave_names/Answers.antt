use Rattle.std.proofs.Common.{◌∙◌, sym}
use Rattle.js_syntax.specs.Node.{row}
use Rattle.min_statements.proofs.Naming.{names_do, put_named}
use Rattle.min_statements.proofs.left_names.leave_names.Goals as goal

pub returns-clause-does : goal.returns-clause-does
returns-clause-does c =
    names_do c.args.node.now c.put_branch.new.node c.in-Some.at (row c.children-2.result.now) (sym c.named_at.ensures ∙ c.in-Some.is) c.notice_change.ensures.requested c.children-2.ensures c.drop_named.ensures.left
    (put_named c.args.node.now c.put_branch.new.node c.in-Some.at (row c.children.result.now) c.in_ok-branch.branch c.children.ensures c.in_ok-branch.ensures c.put_branch.ensures)
