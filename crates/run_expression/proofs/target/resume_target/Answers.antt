use Rattle.std.proofs.Common.{◌∙◌, ap, sym}
use Rattle.std.proofs.lemmas.Result.{IfOk-weaker}
use Rattle.js_meaning.specs.State.{with_value}
use Rattle.js_meaning.specs.Operator.{binary_of}
use Rattle.js_meaning.specs.Reference.{put_place}
use Rattle.js_meaning.specs.Node.{now}
use Rattle.js_meaning.specs.Expression.{then_put, update_gives}
use Rattle.run_value.specs.View.{value_of}
use Rattle.run_world.specs.World.{at, place_of}
use Rattle.run_plan.specs.Frame.{meaning, after_target_of}
use Rattle.run_expression.proofs.target.resume_target.Goals as goal

pub returns-in-Update : goal.returns-in-Update
returns-in-Update c = record {
  does = IfOk-weaker c.write_updated.result _ _ (λ p h E.
      ap (λ f. at c.args.world.now (after_target_of E f (value_of c.args.value))) c.in-Update.is
      ∙ ap (λ m. at c.args.world.now (with_value m (λ new. with_value (put_place E (place_of c.in-Update.place) new) (λ u. update_gives c.in-Update.prefix (value_of c.args.value) new)))) (sym c.updated-new.ensures)
      ∙ h E) c.write_updated.ensures.does;
}

pub returns-in-Compound : goal.returns-in-Compound
returns-in-Compound c = record {
  does = IfOk-weaker c.then_target.result _ _ (λ p h E.
      ap (λ f. at c.args.world.now (after_target_of E f (value_of c.args.value))) c.in-Compound.is
      ∙ ap (at c.args.world.now) (sym (h E ∙ ap (λ m. with_value m (λ u. then_put E (place_of c.in-Compound.place) (binary_of c.in-Compound.operator (value_of c.args.value) u))) (c.in_ok-plan-in-Compound.ensures E ∙ ap (λ t. meaning E t now c.in-Compound.env) c.node.ensures)))) c.then_target.ensures;
}

pub returns-in-CompoundRight : goal.returns-in-CompoundRight
returns-in-CompoundRight c = record {
  does = IfOk-weaker c.put_given.result _ _ (λ p h E.
      ap (λ f. at c.args.world.now (after_target_of E f (value_of c.args.value))) c.in-CompoundRight.is
      ∙ ap (λ m. at c.args.world.now (with_value m (put_place E (place_of c.in-CompoundRight.place)))) (sym c.in_ok-found-in-CompoundRight.ensures)
      ∙ h E) c.put_given.ensures.does;
}

pub returns : goal.returns
returns c = record {
  does = IfOk-weaker c.short.result _ _ (λ p h E.
      ap (λ f. at c.args.world.now (after_target_of E f (value_of c.args.value))) c.in-Short.is
      ∙ ap (at c.args.world.now) (sym (h E))) c.short.ensures;
}
