use Rattle.std.proofs.Common.{◌∙◌, ap, sym}
use Rattle.std.proofs.lemmas.Result.{IfOk-weaker}
use Rattle.js_meaning.specs.Trace.{Act, Ending}
use Rattle.js_meaning.specs.State.{if_gives, choose, give, stop}
use Rattle.js_meaning.specs.Operator.{is_object}
use Rattle.js_meaning.specs.Show.{show_all}
use Rattle.js_meaning.specs.Host.{consult, only}
use Rattle.run_value.specs.ShownView.{shown_of}
use Rattle.run_world.specs.World.{at, values_of}
use Rattle.run_operations.proofs.call.construct_shown.Goals as goal

pub returns : goal.returns
returns c = record {
  does = IfOk-weaker c.then_operand.result _ _ (λ p h E.
      c.in_ok-shown_callee.ensures.does (λ x. show_all (values_of c.args.arguments.now) (λ xs. only is_object (consult E (Act.construct x xs))))
      ∙ c.in_ok-shown_arguments.ensures.does (λ xs. only is_object (consult E (Act.construct (shown_of c.in_ok-shown_callee.shown_callee) xs)))
      ∙ c.in_ok-plan.ensures.follows E (if_gives (λ v r. choose (is_object v) (give v) (stop Ending.host_stopped)))
      ∙ ap (at c.consults.new.world) (sym (h E))) c.then_operand.ensures;
}
