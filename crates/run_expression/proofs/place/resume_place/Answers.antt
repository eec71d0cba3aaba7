use Rattle.std.proofs.Common.{◌∙◌, ap, sym}
use Rattle.std.proofs.lemmas.Result.{IfOk-weaker}
use Rattle.js_meaning.specs.State.{if_gives, with_value}
use Rattle.js_meaning.specs.Operator.{on_number, updated}
use Rattle.js_meaning.specs.Reference.{put_place}
use Rattle.js_meaning.specs.Expression.{update_gives}
use Rattle.run_world.specs.World.{at, place_of}
use Rattle.run_plan.specs.Frame.{after_place_of}
use Rattle.run_expression.proofs.place.resume_place.Goals as goal

pub returns-in_ok-plan-in-Update : goal.returns-in_ok-plan-in-Update
returns-in_ok-plan-in-Update c = record {
  does = IfOk-weaker c.then_target.result _ _ (λ p h E.
      ap (λ f. at c.args.world.now (after_place_of E f (place_of c.args.place))) c.in-Update.is
      ∙ c.in_ok-plan-in-Update.ensures.follows E (if_gives (λ old r. with_value (on_number (updated c.in-Update.operator) old) (λ new. with_value (put_place E (place_of c.args.place) new) (λ v. update_gives c.in-Update.prefix old new))))
      ∙ ap (at c.get_place.new.world) (sym (h E))) c.then_target.ensures;
}
