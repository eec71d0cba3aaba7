use Rattle.std.proofs.Common.{◌∙◌}
use Rattle.std.proofs.lemmas.Result.{IfOk-weaker}
use Rattle.js_meaning.specs.Trace.{Act}
use Rattle.js_meaning.specs.Show.{show}
use Rattle.js_meaning.specs.Host.{consult}
use Rattle.run_value.specs.View.{value_of}
use Rattle.run_value.specs.ShownView.{shown_of}
use Rattle.run_operations.proofs.place.get_member.Goals as goal

pub returns : goal.returns
returns c = record {
  does = IfOk-weaker c.consults.result _ _ (λ p h E.
      c.in_ok-object.ensures.does (λ x. show (value_of c.args.key.now) (λ y. consult E (Act.get x y)))
      ∙ c.in_ok-key.ensures.does (λ y. consult E (Act.get (shown_of c.in_ok-object.object) y))
      ∙ h E) c.consults.ensures.does;
}
