use Rattle.std.proofs.Common.{◌∙◌, ap, sym}
use Rattle.std.proofs.lemmas.Result.{IfOk-weaker}
use Rattle.js_meaning.specs.State.{with_value}
use Rattle.js_meaning.specs.Node.{now, need}
use Rattle.js_meaning.specs.Expression.{known_key}
use Rattle.js_meaning.specs.Meaning.{eval}
use Rattle.run_value.specs.View.{value_of}
use Rattle.run_plan.specs.Frame.{used}
use Rattle.run_plan.specs.Front.{front_of}
use Rattle.run_expression.proofs.operand.key_below.Goals as goal

pub returns-in-Node : goal.returns-in-Node
unfolding need eval
returns-in-Node c =
    IfOk-weaker c.then_operand.result _ _ (λ p h E. h E ∙ ap (λ m. with_value m (known_key (used E c.args.aim (value_of c.args.object)))) (c.in_ok-plan-in-Node.ensures E) ∙ ap (λ t. need (eval E t) (λ m r. with_value (m now c.args.env) (known_key (used E c.args.aim (value_of c.args.object))))) (sym (sym c.nodes.ensures ∙ sym c.first_field.ensures ∙ ap front_of c.in-Node.is))) c.then_operand.ensures
