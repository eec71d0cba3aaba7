use Rattle.min_statements.specs.Own.{AnyEdit}
use Rattle.rules.proofs.DeadCode.StaysTrue.{stays}
use Rattle.min_statements.proofs.Expressions.{expression_moves, expression_visits}
use Rattle.min_statements.proofs.statements.StatementsTraverse.exit_expression.Goals as goal

pub returns : goal.returns
returns c = record {
  moves = expression_moves (stays AnyEdit (λ o t u e. e)) c.args.self.now c.in_ok-fold_expression.ensures.does;
  visited = λ quiet. expression_visits c.args.self.now quiet c.in_ok-fold_expression.ensures.does;
}
