-- statements/StatementsTraverse/exit_statement
use Rattle.std.proofs.Common.{Bool, subst}
use Rattle.min_traverse.specs.Lawful.{Does}
use Rattle.rules.specs.Expressions.LeftNames.{at_if_end}
use Rattle.min_statements.specs.Acts.{empty, state}
use Rattle.min_statements.specs.Own.{AnyEdit}
use Rattle.rules.proofs.DeadCode.StaysTrue.{stays}
use Rattle.min_statements.proofs.Acting.{empty_moves}
use Rattle.min_statements.proofs.Ending.{stating_moves, fold_moves, statement_moves, emptied_visits, stated_visits, fold_visits, statement_visits}
use Rattle.min_statements.proofs.statements.StatementsTraverse.exit_statement.Goals as goal

pub returns-then-empty_statement : goal.returns-then-empty_statement
returns-then-empty_statement c = record {
  moves = empty_moves (stays AnyEdit (λ o t u e. e)) c.args.self.now c.empty_statement.ensures.does;
  visited = λ quiet. emptied_visits c.args.self.now quiet (subst (λ (b : Bool). Does (empty c.args.self.now) c.args.ctx.now c.args.node.now b c.empty_statement.new.ctx c.empty_statement.new.node) c.if-empty_statement.true c.empty_statement.ensures.does);
}

pub returns-then-state_value : goal.returns-then-state_value
returns-then-state_value c =
    let none = subst (λ (b : Bool). Does (empty c.args.self.now) c.args.ctx.now c.args.node.now b c.empty_statement.new.ctx c.empty_statement.new.node) c.if-empty_statement.false c.empty_statement.ensures.does in
    record {
      moves = stating_moves (stays AnyEdit (λ o t u e. e)) c.args.self.now none c.state_value.ensures.does;
      visited = λ quiet. stated_visits c.args.self.now quiet none (subst (λ (b : Bool). Does (state c.args.self.now) c.empty_statement.new.ctx c.empty_statement.new.node b c.state_value.new.ctx c.state_value.new.node) c.if-state_value.true c.state_value.ensures.does);
    }

pub returns-then-branch : goal.returns-then-branch
returns-then-branch c =
    let none = subst (λ (b : Bool). Does (empty c.args.self.now) c.args.ctx.now c.args.node.now b c.empty_statement.new.ctx c.empty_statement.new.node) c.if-empty_statement.false c.empty_statement.ensures.does in
    let unstated = subst (λ (b : Bool). Does (state c.args.self.now) c.empty_statement.new.ctx c.empty_statement.new.node b c.state_value.new.ctx c.state_value.new.node) c.if-state_value.false c.state_value.ensures.does in
    record {
      moves = fold_moves (stays AnyEdit (λ o t u e. e)) c.args.self.now none unstated c.in_ok-try_fold_if.ensures.does;
      visited = λ quiet. fold_visits c.args.self.now quiet none unstated (subst (λ (b : Bool). Does at_if_end c.state_value.new.ctx c.state_value.new.node b c.try_fold_if.new.ctx c.try_fold_if.new.node) c.if-branch.true c.in_ok-try_fold_if.ensures.does);
    }

pub returns : goal.returns
returns c =
    let none = subst (λ (b : Bool). Does (empty c.args.self.now) c.args.ctx.now c.args.node.now b c.empty_statement.new.ctx c.empty_statement.new.node) c.if-empty_statement.false c.empty_statement.ensures.does in
    let unstated = subst (λ (b : Bool). Does (state c.args.self.now) c.empty_statement.new.ctx c.empty_statement.new.node b c.state_value.new.ctx c.state_value.new.node) c.if-state_value.false c.state_value.ensures.does in
    let unfolded = subst (λ (b : Bool). Does at_if_end c.state_value.new.ctx c.state_value.new.node b c.try_fold_if.new.ctx c.try_fold_if.new.node) c.if-branch.false c.in_ok-try_fold_if.ensures.does in
    record {
      moves = statement_moves (stays AnyEdit (λ o t u e. e)) c.args.self.now none unstated unfolded c.remove_unused_import_specifiers.ensures.does;
      visited = λ quiet. statement_visits c.args.self.now quiet none unstated unfolded c.remove_unused_import_specifiers.ensures.does;
    }
