use Rattle.std.proofs.Common.{◌∙◌, ap, [], sym}
use Rattle.std.proofs.lemmas.Result.{IfOk-weaker}
use Rattle.js_syntax.specs.Node.{row}
use Rattle.js_meaning.specs.State.{seq}
use Rattle.js_meaning.specs.Node.{run, each}
use Rattle.js_meaning.specs.Module.{load_all, distinct, requests}
use Rattle.js_meaning.specs.Meaning.{eval}
use Rattle.run_world.specs.World.{at}
use Rattle.run_scope.specs.Entered.{with_env}
use Rattle.run_core.proofs.entry.run_module.Goals as goal

pub returns-in-Some : goal.returns-in-Some
returns-in-Some c = record {
  does = IfOk-weaker c.load_and_run.result _ _ (λ p made E.
      c.in_ok-env.ensures.does (λ env. seq (load_all E (distinct (requests (row c.args.nodes.now)))) (each (run []) (eval E (row c.args.nodes.now)) env))
      ∙ ap (λ o. at c.enter_module.new.world (with_env o (λ env. seq (load_all E (distinct (requests (row c.args.nodes.now)))) (each (run []) (eval E (row c.args.nodes.now)) env)))) c.in-Some.is
      ∙ made E) c.load_and_run.ensures.does;
}

pub returns-in-None : goal.returns-in-None
returns-in-None c = record {
  does = IfOk-weaker c.uncovered.result _ _ (λ p h E.
      c.in_ok-env.ensures.does (λ env. seq (load_all E (distinct (requests (row c.args.nodes.now)))) (each (run []) (eval E (row c.args.nodes.now)) env))
      ∙ ap (λ o. at c.enter_module.new.world (with_env o (λ env. seq (load_all E (distinct (requests (row c.args.nodes.now)))) (each (run []) (eval E (row c.args.nodes.now)) env)))) c.in-None.is
      ∙ ap (λ m. at c.enter_module.new.world m) (sym (h E))) c.uncovered.ensures;
}
