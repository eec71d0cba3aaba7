use Rattle.std.proofs.Common.{◌∙◌}
use Rattle.std.proofs.lemmas.Result.{IfOk-weaker}
use Rattle.js_meaning.specs.Trace.{Act}
use Rattle.js_meaning.specs.Show.{show, show_all}
use Rattle.js_meaning.specs.Host.{consult}
use Rattle.run_value.specs.View.{value_of}
use Rattle.run_value.specs.ShownView.{shown_of}
use Rattle.run_world.specs.World.{values_of}
use Rattle.run_operations.proofs.call.call_host.Goals as goal

pub returns : goal.returns
returns c = record {
  does = IfOk-weaker c.consults.result _ _ (λ p h E.
      c.in_ok-shown_callee.ensures.does (λ x. show (value_of c.args.this.now) (λ y. show_all (values_of c.args.arguments.now) (λ ys. consult E (Act.call x y ys))))
      ∙ c.in_ok-shown_this.ensures.does (λ y. show_all (values_of c.args.arguments.now) (λ ys. consult E (Act.call (shown_of c.in_ok-shown_callee.shown_callee) y ys)))
      ∙ c.in_ok-shown_arguments.ensures.does (λ ys. consult E (Act.call (shown_of c.in_ok-shown_callee.shown_callee) (shown_of c.in_ok-shown_this.shown_this) ys))
      ∙ h E) c.consults.ensures.does;
}
