use Rattle.std.proofs.Common.{◌∙◌, ap, sym}
use Rattle.std.proofs.lemmas.Result.{IfOk-weaker}
use Rattle.js_syntax.specs.declared.node_kind.NodeKind.{NodeKind as Kind}
use Rattle.js_syntax.specs.Node.{row}
use Rattle.js_meaning.specs.Node.{run, may, need}
use Rattle.js_meaning.specs.Meaning.{does, eval}
use Rattle.run_plan.specs.Front.{front_of}
use Rattle.run_statement.proofs.branch.enter_case.Goals as goal

pub returns-in-Node : goal.returns-in-Node
unfolding may eval
returns-in-Node c =
    IfOk-weaker c.asks_first.result _ _ (λ p made E. made E ∙ ap (λ l. need (eval E (row c.in-Node.others.now)) (λ m r. m (run l) c.args.env)) c.none.ensures ∙ ap (λ t. does E Kind.SwitchCase t (eval E t) (run c.args.labels) c.args.env) (sym (sym c.first_field.ensures ∙ ap front_of c.in-Node.is))) c.asks_first.ensures

pub returns-in-Absent : goal.returns-in-Absent
unfolding may eval
returns-in-Absent c =
    IfOk-weaker c.asks_first-in-Absent.result _ _ (λ p made E. made E ∙ ap (λ l. need (eval E (row c.in-Absent.others.now)) (λ m r. m (run l) c.args.env)) c.none-in-Absent.ensures ∙ ap (λ t. does E Kind.SwitchCase t (eval E t) (run c.args.labels) c.args.env) (sym (sym c.first_field.ensures ∙ ap front_of c.in-Absent.is))) c.asks_first-in-Absent.ensures
