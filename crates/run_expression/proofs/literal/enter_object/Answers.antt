use Rattle.std.proofs.Common.{◌∙◌, ap, sym}
use Rattle.std.proofs.lemmas.Result.{IfOk-weaker}
use Rattle.js_syntax.specs.declared.node_kind.NodeKind.{NodeKind as Kind}
use Rattle.js_meaning.specs.Node.{value, need}
use Rattle.js_meaning.specs.Meaning.{does, eval}
use Rattle.run_plan.specs.Ask.{wanted_of}
use Rattle.run_plan.specs.Front.{front_of}
use Rattle.run_expression.proofs.literal.enter_object.Goals as goal

pub returns-in-Node : goal.returns-in-Node
unfolding need eval
returns-in-Node c =
    IfOk-weaker c.object_plan.result _ _ (λ p made E. made E ∙ ap (λ t. does E Kind.ObjectExpression t (eval E t) (value (wanted_of c.args.wanted)) c.args.env) (sym (sym c.first_field.ensures ∙ ap front_of c.in-Node.is))) c.object_plan.ensures
