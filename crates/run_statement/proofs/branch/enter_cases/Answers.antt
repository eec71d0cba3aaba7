use Rattle.std.proofs.Common.{◌∙◌, sym, ap}
use Rattle.std.proofs.lemmas.Result.{IfOk-weaker}
use Rattle.js_syntax.specs.Node.{row}
use Rattle.js_meaning.specs.State.{normal, done}
use Rattle.js_meaning.specs.Statement.{choose_case}
use Rattle.js_meaning.specs.Meaning.{eval}
use Rattle.run_value.specs.View.{value_of}
use Rattle.run_world.specs.World.{at}
use Rattle.run_scope.specs.Entered.{with_env}
use Rattle.run_statement.proofs.branch.enter_cases.Goals as goal

pub returns-in-Some : goal.returns-in-Some
returns-in-Some c = record {
  does = IfOk-weaker c.find_case.result _ _ (λ p made E.
      c.in_ok-env.ensures.does (λ env. choose_case (eval E (row c.args.nodes.now)) (value_of c.args.value) env (done normal))
      ∙ ap (λ o. at c.enter_block.new.world (with_env o (λ env. choose_case (eval E (row c.args.nodes.now)) (value_of c.args.value) env (done normal)))) c.in-Some.is
      ∙ ap (λ m. at c.enter_block.new.world m) (sym (made E))) c.find_case.ensures;
}
