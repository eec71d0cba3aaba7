use Rattle.std.proofs.Common.{◌≡◌, ◌∙◌, sym, ap}
use Rattle.std.proofs.lemmas.Result.{IfOk-weaker}
use Rattle.js_meaning.specs.State.{M, choose, with_value}
use Rattle.js_meaning.specs.Operator.{truthy}
use Rattle.js_meaning.specs.Node.{Meaning, now}
use Rattle.run_expression.specs.Fields.{all_three}
use Rattle.run_expression.proofs.operator.enter_conditional.Goals as goal

pub returns-in-All : goal.returns-in-All
returns-in-All c =
    IfOk-weaker c.conditional_plan.result _ _ (λ p made E.
    let k : Meaning → Meaning → Meaning → M = λ t a b. with_value (t now c.args.env) (λ v. choose (truthy v) (a now c.args.env) (b now c.args.env)) in
    made E ∙ sym (c.first_three.ensures E k ∙ ap (λ t. all_three E t k) c.in-All.is)) c.conditional_plan.ensures

pub returns : goal.returns
returns c =
    IfOk-weaker c.uncovered.result _ _ (λ p made E.
    let k : Meaning → Meaning → Meaning → M = λ t a b. with_value (t now c.args.env) (λ v. choose (truthy v) (a now c.args.env) (b now c.args.env)) in
    made E ∙ sym (c.first_three.ensures E k ∙ ap (λ t. all_three E t k) c.in-Fewer.is)) c.uncovered.ensures
