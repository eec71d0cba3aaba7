use Rattle.std.proofs.Common.{◌∙◌, ap}
use Rattle.std.proofs.lemmas.Result.{IfOk-weaker}
use Rattle.js_meaning.specs.Meaning.{task_does}
use Rattle.run_world.specs.World.{at}
use Rattle.run_plan.specs.Ask.{task_of}
use Rattle.run_core.proofs.task.do_task.Goals as goal

pub returns-in-CalledBack : goal.returns-in-CalledBack
unfolding task_does
returns-in-CalledBack c = record {
  does = IfOk-weaker c.enter_called_back.result _ _ (λ p made E.
      ap (λ t. at c.args.world.now (task_does E (task_of t))) c.in-CalledBack.is ∙ made E) c.enter_called_back.ensures.does;
}
