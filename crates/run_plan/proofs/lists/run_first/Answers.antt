use Rattle.std.proofs.Common.{◌∙◌, ◌∷◌, Some, ap, sym}
use Rattle.std.proofs.lemmas.Result.{IfOk-weaker}
use Rattle.js_meaning.specs.State.{with_value}
use Rattle.js_meaning.specs.Node.{now}
use Rattle.js_meaning.specs.Expression.{in_turn}
use Rattle.js_meaning.specs.Meaning.{eval}
use Rattle.run_plan.specs.Frame.{meaning}
use Rattle.run_plan.specs.Front.{front_of}
use Rattle.run_plan.proofs.lists.run_first.Goals as goal

pub returns-in-Node : goal.returns-in-Node
unfolding in_turn eval
returns-in-Node c =
    IfOk-weaker c.run_before.result _ _ (λ p h E. h E ∙ ap (λ t. with_value (meaning E c.args.node.now now c.args.env) (λ v. in_turn (eval E t) c.args.env)) (sym c.first_field.ensures ∙ ap front_of c.in-Node.is) ∙ ap (λ t. in_turn (Some (meaning E c.args.node.now) ∷ eval E t) c.args.env) (sym (sym c.first_field.ensures ∙ ap front_of c.in-Node.is))) c.run_before.ensures

pub returns-in-Absent : goal.returns-in-Absent
unfolding in_turn eval
returns-in-Absent c =
    IfOk-weaker c.run_before-in-Absent.result _ _ (λ p h E. h E ∙ ap (λ t. with_value (meaning E c.args.node.now now c.args.env) (λ v. in_turn (eval E t) c.args.env)) (sym c.first_field.ensures ∙ ap front_of c.in-Absent.is) ∙ ap (λ t. in_turn (Some (meaning E c.args.node.now) ∷ eval E t) c.args.env) (sym (sym c.first_field.ensures ∙ ap front_of c.in-Absent.is))) c.run_before-in-Absent.ensures
