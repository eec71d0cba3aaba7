use Rattle.std.proofs.Common.{◌∙◌, sym}
use Rattle.js_syntax.specs.Node.{row}
use Rattle.min_statements.proofs.Thinning.{left_does, left_none}
use Rattle.min_statements.proofs.ifs.thin_branch.Goals as goal

pub returns-in-Some : goal.returns-in-Some
returns-in-Some c = record {
  does = left_does c.args.node.now c.rid_branch.new.node c.in-Some.at (row c.children.result.now) (sym c.untaken_at.ensures ∙ c.in-Some.is) c.notice_change.ensures.requested c.children.ensures c.drop_branch.ensures.left c.rid_branch.ensures;
}

pub returns-in-None : goal.returns-in-None
returns-in-None c = record { does = left_none c.args.ctx.now c.args.node.now (sym c.untaken_at.ensures ∙ c.in-None.is) }
