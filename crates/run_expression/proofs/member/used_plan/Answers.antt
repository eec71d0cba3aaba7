use Rattle.std.proofs.Common.{◌∙◌, ap}
use Rattle.std.proofs.lemmas.Result.{IfOk-weaker}
use Rattle.js_meaning.specs.State.{with_value}
use Rattle.js_meaning.specs.Node.{now}
use Rattle.js_meaning.specs.Expression.{member_key}
use Rattle.js_meaning.specs.Meaning.{eval}
use Rattle.run_plan.specs.Frame.{meaning, used}
use Rattle.run_expression.proofs.member.used_plan.Goals as goal

pub returns : goal.returns
returns c =
    IfOk-weaker c.then_operand.result _ _ (λ p made E. made E ∙ (λ i. with_value ((c.in_ok-plan.ensures E ∙ ap (meaning E c.args.object.now now) c.in_ok-around.ensures) i) (λ v. member_key (c.in_ok-key.ensures i) (eval E (c.new.ensures i)) c.args.env (used E c.args.aim v)))) c.then_operand.ensures
