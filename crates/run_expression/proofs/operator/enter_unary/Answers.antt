use Rattle.std.proofs.Common.{◌∙◌, ap, sym}
use Rattle.std.proofs.lemmas.Result.{IfOk-weaker}
use Rattle.js_syntax.specs.declared.node_kind.NodeKind.{NodeKind as Kind}
use Rattle.js_meaning.specs.State.{with_value}
use Rattle.js_meaning.specs.Operator.{unary_of}
use Rattle.js_meaning.specs.Node.{value, need}
use Rattle.js_meaning.specs.Meaning.{does, eval}
use Rattle.run_plan.specs.Ask.{wanted_of}
use Rattle.run_plan.specs.Frame.{meaning}
use Rattle.run_plan.specs.Front.{front_of}
use Rattle.run_expression.proofs.operator.enter_unary.Goals as goal

pub returns-in-Node : goal.returns-in-Node
unfolding need eval
returns-in-Node c =
    IfOk-weaker c.then_operand.result _ _ (λ p made E. made E ∙ ap (λ m. with_value m (unary_of c.args.operator)) (c.in_ok-plan-in-Node.ensures E ∙ ap (λ w. meaning E c.in-Node.operand.now (value w) c.args.env) c.wanted_by.ensures) ∙ ap (λ t. does E (Kind.UnaryExpression c.args.operator) t (eval E t) (value (wanted_of c.args.wanted)) c.args.env) (sym (sym c.first_field.ensures ∙ ap front_of c.in-Node.is))) c.then_operand.ensures
