use Rattle.std.proofs.Common.{◌∙◌, ap, sym}
use Rattle.std.proofs.lemmas.Result.{IfOk-weaker}
use Rattle.js_syntax.specs.declared.node_kind.NodeKind.{NodeKind as Kind}
use Rattle.js_meaning.specs.State.{with_value}
use Rattle.js_meaning.specs.Node.{run, may}
use Rattle.js_meaning.specs.Meaning.{does, eval}
use Rattle.run_plan.specs.declared.frame.AfterStatement.TheVariants as after_statement
use Rattle.run_plan.specs.Frame.{after_statement_of}
use Rattle.run_plan.specs.Front.{front_of}
use Rattle.run_statement.proofs.simple.enter_return.Goals as goal

pub returns-in-Node : goal.returns-in-Node
unfolding may eval
returns-in-Node c =
    IfOk-weaker c.then_statement.result _ _ (λ p made E. made E ∙ ap (λ m. with_value m (after_statement_of E after_statement.Return)) (c.in_ok-plan-in-Node.ensures E) ∙ ap (λ t. does E Kind.ReturnStatement t (eval E t) (run c.args.labels) c.args.env) (sym (sym c.first_field.ensures ∙ ap front_of c.in-Node.is))) c.then_statement.ensures

pub returns-in-Absent : goal.returns-in-Absent
unfolding may eval
returns-in-Absent c =
    IfOk-weaker c.completes.result _ _ (λ p made E. made E ∙ ap (λ t. does E Kind.ReturnStatement t (eval E t) (run c.args.labels) c.args.env) (sym (sym c.first_field.ensures ∙ ap front_of c.in-Absent.is))) c.completes.ensures
