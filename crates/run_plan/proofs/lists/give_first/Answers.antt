use Rattle.std.proofs.Common.{◌∙◌}
use Rattle.std.proofs.lemmas.Result.{IfOk-weaker}
use Rattle.run_world.specs.World.{values_of}
use Rattle.run_plan.proofs.Rows.{gives_first}
use Rattle.run_plan.proofs.lists.give_first.Goals as goal

pub returns : goal.returns
returns c =
    IfOk-weaker c.then_normal.result _ _ (λ p h E. h E ∙ gives_first E c.args.node.now _ _ _ _ _ _ (values_of c.args.values.items) _ (c.in_ok-plan.ensures E) c.in_ok-first.ensures.0 c.in_ok-first.ensures.1 c.in_ok-around.ensures c.new.ensures) c.then_normal.ensures
