use Rattle.std.proofs.Common.{◌∙◌, sym, ap}
use Rattle.std.proofs.lemmas.Result.{IfOk-weaker}
use Rattle.run_world.specs.World.{at}
use Rattle.run_statement.proofs.loops.enter_for.Goals as goal

pub returns : goal.returns
returns c = record {
  does = IfOk-weaker c.init_for.result _ _ (λ p made E.
      c.in_ok-env.ensures.does _
      ∙ ap (λ m. at c.declare_loop_names.new.world m) (sym (made E))) c.init_for.ensures;
}
