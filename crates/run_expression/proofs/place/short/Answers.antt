use Rattle.std.proofs.Common.{◌∙◌, ap, sym}
use Rattle.std.proofs.lemmas.Result.{IfOk-weaker}
use Rattle.js_meaning.specs.State.{if_gives}
use Rattle.js_meaning.specs.Node.{now}
use Rattle.js_meaning.specs.Expression.{logical_value, then_put}
use Rattle.run_world.specs.World.{at, place_of}
use Rattle.run_plan.specs.Frame.{meaning}
use Rattle.run_expression.proofs.place.short.Goals as goal

pub returns : goal.returns
returns c = record {
  does = IfOk-weaker c.then_target.result _ _ (λ p h E.
      c.in_ok-plan.ensures.follows E (if_gives (λ v r. logical_value c.args.operator v (then_put E (place_of c.args.place) (meaning E c.args.right now c.args.env))))
      ∙ ap (at c.get_place.new.world) (sym (h E))) c.then_target.ensures;
}
