use Rattle.std.proofs.Common.{◌∙◌, ap, sym}
use Rattle.std.proofs.lemmas.Result.{IfOk-weaker}
use Rattle.js_meaning.specs.Statement.{choose_case}
use Rattle.js_meaning.specs.Meaning.{eval}
use Rattle.run_value.specs.View.{value_of}
use Rattle.run_plan.specs.Frame.{default_from}
use Rattle.run_plan.specs.Front.{front_of}
use Rattle.run_plan.proofs.Rows.{finds}
use Rattle.run_plan.proofs.lists.find_case.Goals as goal

pub returns-in-Node : goal.returns-in-Node
returns-in-Node c =
    IfOk-weaker c.then_statement.result _ _ (λ p h E. h E ∙ finds E _ _ _ _ _ _ _ _ _ (c.in_ok-plan-in-Node.ensures E) c.in_ok-sought-in-Node.ensures c.in_ok-around-in-Node.ensures (c.new.ensures ∙ sym c.first_field.ensures ∙ ap front_of c.in-Node.is) ∙ ap (λ t. choose_case (eval E t) (value_of c.args.value) c.args.env (default_from E c.args.default c.args.env)) c.new.ensures) c.then_statement.ensures
