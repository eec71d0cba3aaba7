use Rattle.std.proofs.Common.{◌∙◌, ap, sym}
use Rattle.std.proofs.lemmas.Result.{IfOk-weaker}
use Rattle.js_syntax.specs.declared.node_kind.NodeKind.{NodeKind as Kind}
use Rattle.js_meaning.specs.State.{with_all}
use Rattle.js_meaning.specs.Node.{value, need}
use Rattle.js_meaning.specs.Meaning.{does, eval}
use Rattle.run_plan.specs.Ask.{wanted_of}
use Rattle.run_plan.specs.declared.frame.AfterValues.TheVariants as after_values
use Rattle.run_plan.specs.Frame.{after_values_of}
use Rattle.run_plan.specs.Front.{front_of}
use Rattle.run_expression.proofs.literal.enter_array.Goals as goal

pub returns-in-Node : goal.returns-in-Node
unfolding need eval
returns-in-Node c =
    IfOk-weaker c.then_values.result _ _ (λ p made E. made E ∙ ap (λ m. with_all m (after_values_of E after_values.Array)) (c.in_ok-plan-in-Node.ensures E) ∙ ap (λ t. does E Kind.ArrayExpression t (eval E t) (value (wanted_of c.args.wanted)) c.args.env) (sym (sym c.first_field.ensures ∙ ap front_of c.in-Node.is))) c.then_values.ensures
