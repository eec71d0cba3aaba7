use Rattle.std.proofs.Common.{◌≡◌, ◌∙◌, sym, ap}
use Rattle.std.proofs.lemmas.Result.{IfOk-weaker}
use Rattle.js_meaning.specs.State.{M, with_value}
use Rattle.js_meaning.specs.Expression.{logical_value}
use Rattle.js_meaning.specs.Node.{Meaning, now}
use Rattle.run_expression.specs.Fields.{both}
use Rattle.run_expression.proofs.operator.enter_logical.Goals as goal

pub returns-in-Both : goal.returns-in-Both
returns-in-Both c =
    IfOk-weaker c.logical_plan.result _ _ (λ p made E.
    let k : Meaning → Meaning → M = λ l r. with_value (l now c.args.env) (λ v. logical_value c.args.operator v (r now c.args.env)) in
    made E ∙ sym (c.first_two.ensures E k ∙ ap (λ t. both E t k) c.in-Both.is)) c.logical_plan.ensures

pub returns : goal.returns
returns c =
    IfOk-weaker c.uncovered.result _ _ (λ p made E.
    let k : Meaning → Meaning → M = λ l r. with_value (l now c.args.env) (λ v. logical_value c.args.operator v (r now c.args.env)) in
    made E ∙ sym (c.first_two.ensures E k ∙ ap (λ t. both E t k) c.in-Fewer.is)) c.uncovered.ensures
