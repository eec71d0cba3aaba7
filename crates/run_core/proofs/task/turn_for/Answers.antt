use Rattle.std.proofs.Common.{◌∙◌, ap, sym}
use Rattle.std.proofs.lemmas.Result.{IfOk-weaker}
use Rattle.std.specs.Prelude.{[]}
use Rattle.js_syntax.specs.Node.{row}
use Rattle.js_meaning.specs.State.{bind}
use Rattle.js_meaning.specs.Node.{run, need, may}
use Rattle.js_meaning.specs.Statement.{after_turn}
use Rattle.js_meaning.specs.Host.{for_loop}
use Rattle.js_meaning.specs.Meaning.{eval}
use Rattle.run_plan.specs.Frame.{again}
use Rattle.run_plan.specs.Front.{front_of}
use Rattle.run_core.proofs.task.turn_for.Goals as goal

pub returns-in-Node : goal.returns-in-Node
unfolding may eval
returns-in-Node c =
    IfOk-weaker c.turn_behind_init.result _ _ (λ p made E. made E ∙ ap (λ t. may (eval E t) (λ i r. may r (λ t r. may r (λ u r. need r (λ b r. bind (b (run []) c.args.env) (after_turn c.args.labels (again E for_loop (row c.args.nodes.now) (eval E (row c.args.nodes.now)) c.args.labels c.args.env))))))) (sym (sym c.first_field.ensures ∙ ap front_of c.in-Node.is))) c.turn_behind_init.ensures

pub returns-in-Absent : goal.returns-in-Absent
unfolding may eval
returns-in-Absent c =
    IfOk-weaker c.turn_behind_init-in-Absent.result _ _ (λ p made E. made E ∙ ap (λ t. may (eval E t) (λ i r. may r (λ t r. may r (λ u r. need r (λ b r. bind (b (run []) c.args.env) (after_turn c.args.labels (again E for_loop (row c.args.nodes.now) (eval E (row c.args.nodes.now)) c.args.labels c.args.env))))))) (sym (sym c.first_field.ensures ∙ ap front_of c.in-Absent.is))) c.turn_behind_init-in-Absent.ensures
