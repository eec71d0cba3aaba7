use Rattle.std.proofs.Common.{Bool, ◌∙◌, ap, subst}
use Rattle.js_syntax.specs.Node.{Tree}
use Rattle.min_traverse.specs.Lawful.{Does}
use Rattle.min_statements.specs.Acts.{trim}
use Rattle.min_statements.specs.Own.{AnyEdit}
use Rattle.rules.proofs.DeadCode.StaysTrue.{stays}
use Rattle.min_statements.proofs.Acting.{trim_moves, is_list}
use Rattle.min_statements.proofs.Repeating.{list_moves, trimmed_visits, list_visits, untrimmed}
use Rattle.min_statements.proofs.statements.StatementsTraverse.exit_statements.Goals as goal

pub trim_statements-requires : goal.trim_statements-requires
trim_statements-requires c = record { list = is_list c.args.ctx.now.place c.args.node.now.kind c.requires.slot }

pub returns-then-trim_statements : goal.returns-then-trim_statements
returns-then-trim_statements c = record {
  moves = trim_moves (stays AnyEdit (λ o t u e. e)) c.args.self.now (is_list c.args.ctx.now.place c.args.node.now.kind c.requires.slot) c.trim_statements.ensures.does;
  visited = λ quiet. trimmed_visits c.args.self.now quiet (subst (λ (b : Bool). Does (trim c.args.self.now) c.args.ctx.now c.args.node.now b c.trim_statements.new.ctx c.trim_statements.new.node) c.if-trim_statements.true c.trim_statements.ensures.does);
}

pub remove_repeated_imports-requires : goal.remove_repeated_imports-requires
remove_repeated_imports-requires c =
    let none = subst (λ (b : Bool). Does (trim c.args.self.now) c.args.ctx.now c.args.node.now b c.trim_statements.new.ctx c.trim_statements.new.node) c.if-trim_statements.false c.trim_statements.ensures.does in
    record { list = ap (λ (t : Tree). t.kind) (untrimmed c.args.self.now none) ∙ is_list c.args.ctx.now.place c.args.node.now.kind c.requires.slot }

pub returns : goal.returns
returns c =
    let none = subst (λ (b : Bool). Does (trim c.args.self.now) c.args.ctx.now c.args.node.now b c.trim_statements.new.ctx c.trim_statements.new.node) c.if-trim_statements.false c.trim_statements.ensures.does in
    record {
      moves = list_moves (stays AnyEdit (λ o t u e. e)) c.args.self.now none c.in_ok-remove_repeated_imports.ensures.does;
      visited = λ quiet. list_visits c.args.self.now quiet (is_list c.args.ctx.now.place c.args.node.now.kind c.requires.slot) none c.in_ok-remove_repeated_imports.ensures.does;
    }
