use Rattle.std.proofs.Common.{◌≡◌, ◌∙◌, sym, ap}
use Rattle.std.proofs.lemmas.Result.{IfOk-weaker}
use Rattle.js_meaning.specs.State.{M, with_value, with_all}
use Rattle.js_meaning.specs.Expression.{construct_value}
use Rattle.js_meaning.specs.Node.{Meaning, now, collect}
use Rattle.run_expression.specs.Fields.{both}
use Rattle.run_expression.proofs.operator.enter_new.Goals as goal

pub returns-in-Both : goal.returns-in-Both
returns-in-Both c =
    IfOk-weaker c.new_plan.result _ _ (λ p made E.
    let k : Meaning → Meaning → M = λ f a. with_value (f now c.args.env) (λ f. with_all (a collect c.args.env) (construct_value E f)) in
    made E ∙ sym (c.first_two.ensures E k ∙ ap (λ t. both E t k) c.in-Both.is)) c.new_plan.ensures

pub returns : goal.returns
returns c =
    IfOk-weaker c.uncovered.result _ _ (λ p made E.
    let k : Meaning → Meaning → M = λ f a. with_value (f now c.args.env) (λ f. with_all (a collect c.args.env) (construct_value E f)) in
    made E ∙ sym (c.first_two.ensures E k ∙ ap (λ t. both E t k) c.in-Fewer.is)) c.uncovered.ensures
