use Rattle.std.proofs.Common.{◌∙◌, [], sym, ap}
use Rattle.std.proofs.lemmas.Result.{IfOk-weaker}
use Rattle.js_syntax.specs.Node.{row}
use Rattle.js_meaning.specs.State.{seq, if_normal}
use Rattle.js_meaning.specs.Node.{run, each}
use Rattle.js_meaning.specs.Meaning.{eval}
use Rattle.js_meaning.specs.Module.{load_all, distinct, requests}
use Rattle.run_world.specs.World.{at}
use Rattle.run_plan.specs.Frame.{plans}
use Rattle.run_plan.proofs.Law.{goes_on}
use Rattle.run_core.proofs.entry.load_and_run.Goals as goal

pub returns : goal.returns
returns c = record {
  does = IfOk-weaker c.then_normal.result _ _ (λ p made E.
      goes_on c.args.world.now c.load_requests.new.world (load_all E (distinct (requests (row c.args.nodes.now)))) (plans E c.in_ok-plan.plan) (if_normal (each (run []) (eval E (row c.args.nodes.now)) c.args.env)) (c.in_ok-plan.ensures.does E)
      ∙ ap (λ m. at c.load_requests.new.world m) (sym (made E
      ∙ ap (λ t. seq (plans E c.in_ok-plan.plan) (each (run t) (eval E c.new.result) c.args.env)) c.none.ensures
      ∙ ap (λ t. seq (plans E c.in_ok-plan.plan) (each (run []) (eval E t) c.args.env)) c.new.ensures))) c.then_normal.ensures;
}
