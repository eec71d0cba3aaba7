use Rattle.std.proofs.Common.{◌≡◌, ◌∙◌, sym, ap}
use Rattle.std.proofs.lemmas.Result.{IfOk-weaker}
use Rattle.js_meaning.specs.State.{M, with_receiver, with_all}
use Rattle.js_meaning.specs.Expression.{call_value}
use Rattle.js_meaning.specs.Node.{Meaning, value, to_call, collect}
use Rattle.run_expression.specs.Fields.{both}
use Rattle.run_expression.proofs.operator.enter_call.Goals as goal

pub returns-in-Both : goal.returns-in-Both
returns-in-Both c =
    IfOk-weaker c.call_plan.result _ _ (λ p made E.
    let k : Meaning → Meaning → M = λ f a. with_receiver (f (value to_call) c.args.env) (λ f this. with_all (a collect c.args.env) (call_value E f this)) in
    made E ∙ sym (c.first_two.ensures E k ∙ ap (λ t. both E t k) c.in-Both.is)) c.call_plan.ensures

pub returns : goal.returns
returns c =
    IfOk-weaker c.uncovered.result _ _ (λ p made E.
    let k : Meaning → Meaning → M = λ f a. with_receiver (f (value to_call) c.args.env) (λ f this. with_all (a collect c.args.env) (call_value E f this)) in
    made E ∙ sym (c.first_two.ensures E k ∙ ap (λ t. both E t k) c.in-Fewer.is)) c.uncovered.ensures
