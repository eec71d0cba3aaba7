use Rattle.std.proofs.Common.{◌∙◌, ap, sym}
use Rattle.std.proofs.lemmas.Result.{IfOk-weaker}
use Rattle.js_meaning.specs.State.{if_gives, with_value, done, gives}
use Rattle.js_meaning.specs.Expression.{receiver_of}
use Rattle.run_value.specs.View.{value_of}
use Rattle.run_world.specs.World.{at}
use Rattle.run_plan.specs.Ask.{wanted_of}
use Rattle.run_plan.specs.Frame.{plans, used}
use Rattle.run_operations.proofs.place.used.Goals as goal

pub returns-in_ok-plan-in-Read : goal.returns-in_ok-plan-in-Read
returns-in_ok-plan-in-Read c = record {
  does = IfOk-weaker c.then_operand.result _ _ (λ p h E.
      ap (λ a. at c.args.world.now (used E a (value_of c.args.object) (value_of c.args.key))) c.in-Read.is
      ∙ c.in_ok-plan-in-Read.ensures.follows E (if_gives (λ v r. done (gives v (receiver_of (wanted_of c.in-Read.wanted) (value_of c.args.object)))))
      ∙ ap (at c.get_place.new.world) (sym (h E ∙ ap (λ r. with_value (plans E c.in_ok-plan-in-Read.plan) (λ v. done (gives v r))) (c.receiver.ensures ∙ ap (receiver_of (wanted_of c.in-Read.wanted)) c.in_ok-this-in-Read.ensures)))) c.then_operand.ensures;
}
