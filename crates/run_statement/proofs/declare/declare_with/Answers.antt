use Rattle.std.proofs.Common.{◌∙◌, ap, sym}
use Rattle.std.proofs.lemmas.Result.{IfOk-weaker}
use Rattle.js_meaning.specs.Node.{may}
use Rattle.js_meaning.specs.Statement.{declarator}
use Rattle.js_meaning.specs.Meaning.{eval}
use Rattle.run_plan.specs.Frame.{meaning}
use Rattle.run_plan.specs.Front.{front_of}
use Rattle.run_statement.proofs.declare.declare_with.Goals as goal

pub returns-in-Node : goal.returns-in-Node
unfolding may eval
returns-in-Node c =
    IfOk-weaker c.initial_plan.result _ _ (λ p made E. made E ∙ ap (λ t. may (eval E t) (λ m r. declarator c.args.how (meaning E c.args.name.now) m c.args.env)) (sym (sym c.first_field.ensures ∙ ap front_of c.in-Node.is))) c.initial_plan.ensures

pub returns-in-Absent : goal.returns-in-Absent
unfolding may eval
returns-in-Absent c =
    IfOk-weaker c.declare_without.result _ _ (λ p made E. made E ∙ ap (λ t. may (eval E t) (λ m r. declarator c.args.how (meaning E c.args.name.now) m c.args.env)) (sym (sym c.first_field.ensures ∙ ap front_of c.in-Absent.is))) c.declare_without.ensures
