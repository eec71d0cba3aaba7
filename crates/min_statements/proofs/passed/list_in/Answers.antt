use Rattle.std.proofs.Common.{◌∙◌, Some, sym, ap}
use Rattle.min_statements.specs.Merged.{is_statements}
use Rattle.min_statements.proofs.Passing.{statements_listed, others_unlisted}
use Rattle.min_statements.proofs.passed.list_in.Goals as goal

pub returns-then-is_statements : goal.returns-then-is_statements
returns-then-is_statements c = ap Some c.children.ensures ∙ statements_listed c.args.list.now (ap is_statements (sym c.kind.ensures) ∙ sym c.is_statements.ensures ∙ c.if-is_statements.true)

pub returns-else-is_statements : goal.returns-else-is_statements
returns-else-is_statements c = others_unlisted c.args.list.now (ap is_statements (sym c.kind.ensures) ∙ sym c.is_statements.ensures ∙ c.if-is_statements.false)
