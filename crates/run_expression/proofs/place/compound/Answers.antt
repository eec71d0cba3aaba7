use Rattle.std.proofs.Common.{◌∙◌, ap, sym}
use Rattle.std.proofs.lemmas.Result.{IfOk-weaker}
use Rattle.js_meaning.specs.State.{if_gives, with_value}
use Rattle.js_meaning.specs.Operator.{binary_of}
use Rattle.js_meaning.specs.Node.{now}
use Rattle.js_meaning.specs.Expression.{then_put}
use Rattle.run_world.specs.World.{at, place_of}
use Rattle.run_plan.specs.Frame.{meaning}
use Rattle.run_expression.proofs.place.compound.Goals as goal

pub returns : goal.returns
returns c = record {
  does = IfOk-weaker c.then_target.result _ _ (λ p h E.
      c.in_ok-plan.ensures.follows E (if_gives (λ v r. with_value (meaning E c.args.right now c.args.env) (λ u. then_put E (place_of c.args.place) (binary_of c.args.operator v u))))
      ∙ ap (at c.get_place.new.world) (sym (h E))) c.then_target.ensures;
}
