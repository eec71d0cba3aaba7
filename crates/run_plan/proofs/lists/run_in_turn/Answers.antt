use Rattle.std.proofs.Common.{◌∙◌, ap, sym}
use Rattle.std.proofs.lemmas.Result.{IfOk-weaker}
use Rattle.js_meaning.specs.Expression.{in_turn}
use Rattle.js_meaning.specs.Meaning.{eval}
use Rattle.run_plan.specs.Front.{front_of}
use Rattle.run_plan.proofs.lists.run_in_turn.Goals as goal

pub returns-in-Node : goal.returns-in-Node
unfolding in_turn eval
returns-in-Node c =
    IfOk-weaker c.run_first.result _ _ (λ p h E. h E ∙ ap (λ t. in_turn (eval E t) c.args.env) (sym (sym c.first_field.ensures ∙ ap front_of c.in-Node.is))) c.run_first.ensures
