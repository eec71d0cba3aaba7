use Rattle.std.proofs.Common.{◌∙◌, sym, ap}
use Rattle.rules.specs.DeadCode.Rules.{where_of}
use Rattle.min_statements.specs.Statement.{is_expression}
use Rattle.min_statements.specs.Walker.{facts_of}
use Rattle.min_statements.proofs.Spared.{no_expression}
use Rattle.min_statements.proofs.emptied.is_silent_there.Goals as goal

pub returns-then-not-is_expression : goal.returns-then-not-is_expression
returns-then-not-is_expression c =
    let node = c.args.node.now in
    sym (no_expression (facts_of c.args.names.now c.args.ctx.now) (where_of c.args.ctx.now.place) node.kind node.below (ap is_expression (sym c.kind.ensures) ∙ sym c.is_expression.ensures ∙ c.if-not-is_expression.true))
