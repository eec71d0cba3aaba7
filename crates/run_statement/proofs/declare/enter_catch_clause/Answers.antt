use Rattle.std.proofs.Common.{◌∙◌, sym, ap}
use Rattle.std.proofs.lemmas.Result.{IfOk-weaker}
use Rattle.run_world.specs.World.{at}
use Rattle.run_statement.proofs.declare.enter_catch_clause.Goals as goal

pub returns : goal.returns
returns c = record {
  does = IfOk-weaker c.catch_value.result _ _ (λ p made E.
      c.in_ok-env.ensures.does _
      ∙ ap (λ m. at c.enter_catch.new.world m) (sym (made E))) c.catch_value.ensures;
}
