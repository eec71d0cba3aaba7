use Rattle.std.proofs.Common.{◌∙◌, ap, sym}
use Rattle.std.proofs.lemmas.Result.{IfOk-weaker}
use Rattle.js_meaning.specs.Node.{may}
use Rattle.js_meaning.specs.Meaning.{eval, run_code}
use Rattle.run_world.specs.World.{values_of}
use Rattle.run_plan.specs.Front.{front_of}
use Rattle.run_core.proofs.task.run_code.Goals as goal

pub returns-in-Node : goal.returns-in-Node
unfolding may eval
returns-in-Node c =
    IfOk-weaker c.run_behind_name.result _ _ (λ p made E. made E ∙ ap (λ t. run_code t (eval E t) (values_of c.args.arguments.items) c.args.env) (sym (sym c.first_field.ensures ∙ ap front_of c.in-Node.is))) c.run_behind_name.ensures

pub returns-in-Absent : goal.returns-in-Absent
unfolding may eval
returns-in-Absent c =
    IfOk-weaker c.run_behind_name-in-Absent.result _ _ (λ p made E. made E ∙ ap (λ t. run_code t (eval E t) (values_of c.args.arguments.items) c.args.env) (sym (sym c.first_field.ensures ∙ ap front_of c.in-Absent.is))) c.run_behind_name-in-Absent.ensures
