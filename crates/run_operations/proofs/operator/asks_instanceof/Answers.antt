use Rattle.std.proofs.Common.{◌∙◌, ap, sym}
use Rattle.std.proofs.lemmas.Result.{IfOk-weaker}
use Rattle.js_meaning.specs.Trace.{Act, Ending}
use Rattle.js_meaning.specs.State.{if_gives, choose, give, stop}
use Rattle.js_meaning.specs.Operator.{is_boolean}
use Rattle.js_meaning.specs.Show.{show}
use Rattle.js_meaning.specs.Host.{consult, only}
use Rattle.run_value.specs.View.{value_of}
use Rattle.run_value.specs.ShownView.{shown_of}
use Rattle.run_world.specs.World.{at}
use Rattle.run_operations.proofs.operator.asks_instanceof.Goals as goal

pub returns : goal.returns
returns c = record {
  does = IfOk-weaker c.then_operand.result _ _ (λ p h E.
      c.in_ok-left.ensures.does (λ x. show (value_of c.args.right.now) (λ y. only is_boolean (consult E (Act.asks_instanceof x y))))
      ∙ c.in_ok-right.ensures.does (λ y. only is_boolean (consult E (Act.asks_instanceof (shown_of c.in_ok-left.left) y)))
      ∙ c.in_ok-plan.ensures.follows E (if_gives (λ v r. choose (is_boolean v) (give v) (stop Ending.host_stopped)))
      ∙ ap (at c.consults.new.world) (sym (h E))) c.then_operand.ensures;
}
