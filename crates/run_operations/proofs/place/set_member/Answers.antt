use Rattle.std.proofs.Common.{◌∙◌, ap, sym}
use Rattle.std.proofs.lemmas.Result.{IfOk-weaker}
use Rattle.js_meaning.specs.Trace.{Act}
use Rattle.js_meaning.specs.State.{if_gives, with_value, give}
use Rattle.js_meaning.specs.Show.{show}
use Rattle.js_meaning.specs.Host.{consult}
use Rattle.run_value.specs.View.{value_of}
use Rattle.run_value.specs.ShownView.{shown_of}
use Rattle.run_world.specs.World.{at}
use Rattle.run_operations.proofs.place.set_member.Goals as goal

pub returns : goal.returns
returns c = record {
  does = IfOk-weaker c.then_operand.result _ _ (λ p h E.
      c.in_ok-object.ensures.does (λ x. show (value_of c.args.key.now) (λ y. show (value_of c.args.value) (λ z. with_value (consult E (Act.set x y z)) (λ u. give (value_of c.args.value)))))
      ∙ c.in_ok-key.ensures.does (λ y. show (value_of c.args.value) (λ z. with_value (consult E (Act.set (shown_of c.in_ok-object.object) y z)) (λ u. give (value_of c.args.value))))
      ∙ c.in_ok-shown.ensures.does (λ z. with_value (consult E (Act.set (shown_of c.in_ok-object.object) (shown_of c.in_ok-key.key) z)) (λ u. give (value_of c.args.value)))
      ∙ c.in_ok-plan.ensures.follows E (if_gives (λ v r. give (value_of c.args.value)))
      ∙ ap (at c.consults.new.world) (sym (h E))) c.then_operand.ensures;
}
