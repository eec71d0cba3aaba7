use Rattle.std.proofs.Common.{◌≡◌, ◌∙◌, sym, ap}
use Rattle.std.proofs.lemmas.Result.{IfOk-weaker}
use Rattle.js_meaning.specs.State.{M, with_place}
use Rattle.js_meaning.specs.Expression.{assign}
use Rattle.js_meaning.specs.Node.{Meaning, now, place}
use Rattle.run_expression.specs.Fields.{both}
use Rattle.run_expression.proofs.operator.enter_assignment.Goals as goal

pub returns-in-Both : goal.returns-in-Both
returns-in-Both c =
    IfOk-weaker c.assignment_plan.result _ _ (λ p made E.
    let k : Meaning → Meaning → M = λ t r. with_place (t place c.args.env) (λ p. assign E c.args.operator p (r now c.args.env)) in
    made E ∙ sym (c.first_two.ensures E k ∙ ap (λ t. both E t k) c.in-Both.is)) c.assignment_plan.ensures

pub returns : goal.returns
returns c =
    IfOk-weaker c.uncovered.result _ _ (λ p made E.
    let k : Meaning → Meaning → M = λ t r. with_place (t place c.args.env) (λ p. assign E c.args.operator p (r now c.args.env)) in
    made E ∙ sym (c.first_two.ensures E k ∙ ap (λ t. both E t k) c.in-Fewer.is)) c.uncovered.ensures
