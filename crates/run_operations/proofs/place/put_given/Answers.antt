use Rattle.std.proofs.Common.{◌∙◌, ap, sym}
use Rattle.std.proofs.lemmas.Result.{IfOk-weaker}
use Rattle.js_meaning.specs.State.{with_value}
use Rattle.js_meaning.specs.Reference.{put_place}
use Rattle.run_value.specs.Given as value
use Rattle.run_world.specs.World.{at, place_of}
use Rattle.run_plan.proofs.Law.{after_done, after_stop}
use Rattle.run_operations.proofs.place.put_given.Goals as goal

pub returns-in-Some : goal.returns-in-Some
returns-in-Some c = record {
  does = IfOk-weaker c.put_place.result _ _ (λ p h E. ap (λ o. at c.args.world.now (with_value (value.gives o) (put_place E (place_of c.args.place.now)))) c.in-Some.is ∙ ap (at c.args.world.now) (after_done _ _) ∙ h E) c.put_place.ensures.does;
}

pub returns-in-None : goal.returns-in-None
returns-in-None c = record {
  does = IfOk-weaker c.uncovered.result _ _ (λ p h E. ap (λ o. at c.args.world.now (with_value (value.gives o) (put_place E (place_of c.args.place.now)))) c.in-None.is ∙ ap (at c.args.world.now) (after_stop _ _ ∙ sym (h E))) c.uncovered.ensures;
}
