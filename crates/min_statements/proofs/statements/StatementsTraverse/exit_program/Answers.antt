use Rattle.std.proofs.Common.{Bool, subst}
use Rattle.min_traverse.specs.Lawful.{Does}
use Rattle.min_statements.specs.Acts.{merge}
use Rattle.min_statements.specs.Own.{AnyEdit}
use Rattle.rules.proofs.DeadCode.StaysTrue.{stays}
use Rattle.min_statements.proofs.Merging.{merge_moves}
use Rattle.min_statements.proofs.Passing.{program_moves, merged_visits, program_visits}
use Rattle.min_statements.proofs.statements.StatementsTraverse.exit_program.Goals as goal

pub returns-then-branch : goal.returns-then-branch
returns-then-branch c = record {
  moves = merge_moves (stays AnyEdit (λ o t u e. e)) c.args.self.now c.in_ok-merge_module_imports.ensures.does;
  visited = λ quiet. merged_visits c.args.self.now quiet (subst (λ (b : Bool). Does (merge c.args.self.now) c.args.ctx.now c.args.node.now b c.merge_module_imports.new.ctx c.merge_module_imports.new.node) c.if-branch.true c.in_ok-merge_module_imports.ensures.does);
}

pub returns : goal.returns
returns c =
    let none = subst (λ (b : Bool). Does (merge c.args.self.now) c.args.ctx.now c.args.node.now b c.merge_module_imports.new.ctx c.merge_module_imports.new.node) c.if-branch.false c.in_ok-merge_module_imports.ensures.does in
    record {
      moves = program_moves (stays AnyEdit (λ o t u e. e)) c.args.self.now none c.in_ok-merge_import_export.ensures.does;
      visited = λ quiet. program_visits c.args.self.now quiet none c.in_ok-merge_import_export.ensures.does;
    }
