use Rattle.std.proofs.Common.{◌∙◌, ap, sym}
use Rattle.std.proofs.lemmas.Result.{IfOk-weaker}
use Rattle.js_meaning.specs.Node.{now, may, need}
use Rattle.js_meaning.specs.Meaning.{eval}
use Rattle.run_plan.specs.Front.{front_of}
use Rattle.run_expression.proofs.other.property_value.Goals as goal

pub returns-in-Node : goal.returns-in-Node
unfolding may eval
returns-in-Node c =
    IfOk-weaker c.asks_first.result _ _ (λ p made E. made E ∙ ap (λ t. may (eval E t) (λ k r. need r (λ m r. m now c.args.env))) (sym (sym c.first_field.ensures ∙ ap front_of c.in-Node.is))) c.asks_first.ensures

pub returns-in-Absent : goal.returns-in-Absent
unfolding may eval
returns-in-Absent c =
    IfOk-weaker c.asks_first-in-Absent.result _ _ (λ p made E. made E ∙ ap (λ t. may (eval E t) (λ k r. need r (λ m r. m now c.args.env))) (sym (sym c.first_field.ensures ∙ ap front_of c.in-Absent.is))) c.asks_first-in-Absent.ensures
