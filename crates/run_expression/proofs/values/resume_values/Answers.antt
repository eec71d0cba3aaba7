use Rattle.std.proofs.Common.{◌∙◌, ap, sym}
use Rattle.std.proofs.lemmas.Result.{IfOk-weaker}
use Rattle.js_meaning.specs.Value.{object, no_content}
use Rattle.js_meaning.specs.State.{give, identity}
use Rattle.js_meaning.specs.Expression.{object_content}
use Rattle.run_world.specs.World.{at, values_of}
use Rattle.run_plan.specs.Frame.{after_values_of}
use Rattle.run_expression.proofs.values.resume_values.Goals as goal

pub returns-in-Array : goal.returns-in-Array
returns-in-Array c = record {
  does = IfOk-weaker c.make_array.result _ _ (λ p h E. ap (λ f. at c.args.world.now (after_values_of E f (values_of c.args.values.items))) c.in-Array.is ∙ h E) c.make_array.ensures.does;
}

pub returns-in-Object : goal.returns-in-Object
returns-in-Object c = record {
  does = IfOk-weaker c.make_object.result _ _ (λ p h E.
      ap (λ f. at c.args.world.now (after_values_of E f (values_of c.args.values.items))) c.in-Object.is
      ∙ (λ j. at c.args.world.now (identity (λ i. give (object i (object_content (sym c.nodes.ensures j) (values_of (sym c.as_slice.ensures.value j)) no_content)))))
      ∙ h E) c.make_object.ensures.does;
}
