use Rattle.std.proofs.Common.{◌∙◌, ap, sym}
use Rattle.std.proofs.lemmas.Result.{IfOk-weaker}
use Rattle.js_meaning.specs.State.{seq}
use Rattle.js_meaning.specs.Scope.{behind, start}
use Rattle.js_meaning.specs.Node.{take_all, need, first_ask}
use Rattle.js_meaning.specs.Meaning.{eval}
use Rattle.run_world.specs.World.{values_of}
use Rattle.run_plan.specs.Front.{front_of}
use Rattle.run_core.proofs.task.run_behind_name.Goals as goal

pub returns-in-Node : goal.returns-in-Node
unfolding need eval
returns-in-Node c =
    IfOk-weaker c.run_behind_parameters.result _ _ (λ p made E. made E ∙ ap (λ t. need (eval E t) (λ ps r. need r (λ b r. seq (ps (take_all (values_of c.args.arguments.items)) c.args.env) (start (behind t) c.args.env (b (first_ask (behind t)) c.args.env))))) (sym (sym c.first_field.ensures ∙ ap front_of c.in-Node.is))) c.run_behind_parameters.ensures
