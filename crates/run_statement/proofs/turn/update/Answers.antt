use Rattle.std.proofs.Common.{◌∙◌, ap, sym}
use Rattle.std.proofs.lemmas.Result.{IfOk-weaker}
use Rattle.js_syntax.specs.Node.{row}
use Rattle.js_meaning.specs.State.{with_value}
use Rattle.js_meaning.specs.Host.{for_loop}
use Rattle.js_meaning.specs.Node.{now}
use Rattle.js_meaning.specs.Statement.{test_then}
use Rattle.js_meaning.specs.Meaning.{eval}
use Rattle.run_world.specs.World.{at}
use Rattle.run_plan.specs.Frame.{meaning}
use Rattle.run_statement.proofs.turn.update.Goals as goal

pub returns : goal.returns
returns c = record {
  does = IfOk-weaker c.then_statement.result _ _ (λ p h E.
      c.in_ok-env.ensures.does (λ env. with_value (meaning E c.args.node.now now env) (λ v. test_then E for_loop (row c.args.nodes.now) (eval E (row c.args.nodes.now)) c.args.labels env))
      ∙ ap (at c.copy_loop_names.new.world) (sym (h E ∙ (λ i. with_value ((c.in_ok-plan.ensures E ∙ ap (meaning E c.args.node.now now) c.in_ok-around.ensures) i) (λ v. test_then E for_loop (c.new.ensures i) (eval E (c.new.ensures i)) c.args.labels c.in_ok-env.env))))) c.then_statement.ensures;
}
