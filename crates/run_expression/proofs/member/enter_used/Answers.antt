use Rattle.std.proofs.Common.{◌∙◌, ap, sym}
use Rattle.std.proofs.lemmas.Result.{IfOk-weaker}
use Rattle.js_meaning.specs.Expression.{member_place}
use Rattle.js_meaning.specs.Node.{need}
use Rattle.js_meaning.specs.Meaning.{eval}
use Rattle.run_plan.specs.Frame.{used}
use Rattle.run_plan.specs.Front.{front_of}
use Rattle.run_expression.proofs.member.enter_used.Goals as goal

pub returns-in-Node : goal.returns-in-Node
unfolding need eval
returns-in-Node c =
    IfOk-weaker c.used_plan.result _ _ (λ p made E. made E ∙ ap (λ t. member_place c.args.key.now (eval E t) c.args.env (used E c.args.aim)) (sym (sym c.first_field.ensures ∙ ap front_of c.in-Node.is))) c.used_plan.ensures
