use Rattle.std.proofs.Common.{◌∙◌, ap, sym}
use Rattle.std.proofs.lemmas.Result.{IfOk-weaker}
use Rattle.js_meaning.specs.Meaning.{eval, take_each}
use Rattle.run_world.specs.World.{values_of}
use Rattle.run_plan.specs.Front.{front_of}
use Rattle.run_plan.proofs.lists.give_each.Goals as goal

pub returns-in-Node : goal.returns-in-Node
unfolding take_each eval
returns-in-Node c =
    IfOk-weaker c.give_first.result _ _ (λ p h E. h E ∙ ap (λ t. take_each (eval E t) (values_of c.args.values.items) c.args.env) (sym (sym c.first_field.ensures ∙ ap front_of c.in-Node.is))) c.give_first.ensures
