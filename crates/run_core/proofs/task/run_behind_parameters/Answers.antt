use Rattle.std.proofs.Common.{◌∙◌, ap, sym}
use Rattle.std.proofs.lemmas.Result.{IfOk-weaker}
use Rattle.js_meaning.specs.State.{seq}
use Rattle.js_meaning.specs.Scope.{start}
use Rattle.js_meaning.specs.Node.{take_all, need, first_ask}
use Rattle.js_meaning.specs.Meaning.{eval}
use Rattle.run_world.specs.World.{values_of}
use Rattle.run_plan.specs.Frame.{meaning}
use Rattle.run_plan.specs.Front.{front_of}
use Rattle.run_core.proofs.task.run_behind_parameters.Goals as goal

pub returns-in-Node : goal.returns-in-Node
unfolding need eval
returns-in-Node c =
    IfOk-weaker c.body_plan.result _ _ (λ p made E. made E ∙ ap (λ t. seq (meaning E c.args.parameters.now (take_all (values_of c.args.arguments.items)) c.args.env) (start t c.args.env (need (eval E t) (λ b r. b (first_ask t) c.args.env)))) (sym c.first_field.ensures ∙ ap front_of c.in-Node.is) ∙ ap (λ t. need (eval E t) (λ b r. seq (meaning E c.args.parameters.now (take_all (values_of c.args.arguments.items)) c.args.env) (start t c.args.env (b (first_ask t) c.args.env)))) (sym (sym c.first_field.ensures ∙ ap front_of c.in-Node.is))) c.body_plan.ensures
