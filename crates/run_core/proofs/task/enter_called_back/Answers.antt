use Rattle.std.proofs.Common.{◌∙◌, sym, ap}
use Rattle.std.proofs.lemmas.Result.{IfOk-weaker}
use Rattle.run_world.specs.World.{at}
use Rattle.run_plan.proofs.Law.{goes_on}
use Rattle.run_core.proofs.task.enter_called_back.Goals as goal

pub returns : goal.returns
returns c = record {
  does = IfOk-weaker c.then_completion.result _ _ (λ p made E.
      goes_on c.args.world.now c.enter_call.new.world _ _ _ (c.in_ok-plan.ensures.does E)
      ∙ ap (λ m. at c.enter_call.new.world m) (sym (made E))) c.then_completion.ensures;
}
