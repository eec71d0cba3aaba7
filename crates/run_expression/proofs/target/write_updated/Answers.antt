use Rattle.std.proofs.Common.{◌∙◌, ap, sym}
use Rattle.std.proofs.lemmas.Result.{IfOk-weaker}
use Rattle.js_meaning.specs.State.{if_gives, with_value}
use Rattle.js_meaning.specs.Reference.{put_place}
use Rattle.js_meaning.specs.Expression.{update_gives}
use Rattle.run_value.specs.View.{value_of}
use Rattle.run_value.specs.Given as given
use Rattle.run_world.specs.World.{at, place_of}
use Rattle.run_plan.specs.Frame.{plans}
use Rattle.run_plan.proofs.Law.{after_done, after_stop}
use Rattle.run_expression.proofs.target.write_updated.Goals as goal

pub returns-in-Some : goal.returns-in-Some
returns-in-Some c = record {
  does = IfOk-weaker c.then_operand.result _ _ (λ p h E.
      ap (λ o. at c.args.world.now (with_value (given.gives o) (λ new. with_value (put_place E (place_of c.args.place.now) new) (λ u. update_gives c.args.prefix (value_of c.args.old) new)))) c.in-Some.is
      ∙ ap (at c.args.world.now) (after_done _ _)
      ∙ c.in_ok-plan-in-Some.ensures.follows E (if_gives (λ v r. update_gives c.args.prefix (value_of c.args.old) (value_of c.in-Some.new)))
      ∙ ap (at c.put_place.new.world) (sym (h E ∙ ap (λ m. with_value (plans E c.in_ok-plan-in-Some.plan) (λ v. m)) c.in_ok-value-in-Some.ensures))) c.then_operand.ensures;
}

pub returns : goal.returns
returns c = record {
  does = IfOk-weaker c.uncovered.result _ _ (λ p h E. ap (λ o. at c.args.world.now (with_value (given.gives o) (λ new. with_value (put_place E (place_of c.args.place.now) new) (λ u. update_gives c.args.prefix (value_of c.args.old) new)))) c.in-None.is ∙ ap (at c.args.world.now) (after_stop _ _ ∙ sym (h E))) c.uncovered.ensures;
}
