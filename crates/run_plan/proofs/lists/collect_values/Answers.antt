use Rattle.std.proofs.Common.{◌∙◌, ◌++◌, ap, sym}
use Rattle.std.proofs.lemmas.Result.{IfOk-weaker}
use Rattle.js_meaning.specs.State.{done, gives_all}
use Rattle.js_meaning.specs.Node.{values}
use Rattle.js_meaning.specs.Meaning.{eval}
use Rattle.run_world.specs.World.{values_of}
use Rattle.run_plan.specs.Frame.{entry_or_now}
use Rattle.run_plan.specs.Front.{front_of}
use Rattle.run_plan.proofs.lists.collect_values.Goals as goal

pub returns-in-Node : goal.returns-in-Node
unfolding values eval
returns-in-Node c =
    IfOk-weaker c.collect_first.result _ _ (λ p h E. h E ∙ ap (λ t. values (entry_or_now c.args.entries) (eval E t) c.args.env (λ vs. done (gives_all (values_of c.args.before.items ++ vs)))) (sym (sym c.first_field.ensures ∙ ap front_of c.in-Node.is))) c.collect_first.ensures
