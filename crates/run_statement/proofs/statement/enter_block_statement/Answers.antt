use Rattle.std.proofs.Common.{◌∙◌, sym, ap}
use Rattle.std.proofs.lemmas.Result.{IfOk-weaker}
use Rattle.js_syntax.specs.Node.{row}
use Rattle.js_meaning.specs.Node.{run, need}
use Rattle.js_meaning.specs.Meaning.{eval}
use Rattle.run_world.specs.World.{at}
use Rattle.run_scope.specs.Entered.{with_env}
use Rattle.run_statement.proofs.statement.enter_block_statement.Goals as goal

pub returns-in-Some : goal.returns-in-Some
returns-in-Some c = record {
  does = IfOk-weaker c.asks_first.result _ _ (λ p h E.
      c.in_ok-env.ensures.does (λ env. need (eval E (row c.args.nodes.now)) (λ m r. m (run c.args.labels) env))
      ∙ ap (λ o. at c.enter_block.new.world (with_env o (λ env. need (eval E (row c.args.nodes.now)) (λ m r. m (run c.args.labels) env)))) c.in-Some.is
      ∙ ap (λ m. at c.enter_block.new.world m) (sym (h E))) c.asks_first.ensures;
}
