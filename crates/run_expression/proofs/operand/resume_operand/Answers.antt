use Rattle.std.proofs.Common.{◌∙◌, ap, sym}
use Rattle.std.proofs.lemmas.Result.{IfOk-weaker}
use Rattle.js_meaning.specs.State.{with_all}
use Rattle.js_meaning.specs.Node.{collect}
use Rattle.js_meaning.specs.Expression.{call_value, construct_value}
use Rattle.run_value.specs.View.{value_of}
use Rattle.run_world.specs.World.{at}
use Rattle.run_plan.specs.Frame.{meaning, after_operand_of}
use Rattle.run_expression.proofs.operand.resume_operand.Goals as goal

pub returns-in-Callee : goal.returns-in-Callee
returns-in-Callee c = record {
  does = IfOk-weaker c.then_values.result _ _ (λ p h E.
      ap (λ f. at c.args.world.now (after_operand_of E f (value_of c.args.value) (value_of c.args.this))) c.in-Callee.is
      ∙ ap (at c.args.world.now) (sym (h E ∙ ap (λ m. with_all m (call_value E (value_of c.args.value) (value_of c.args.this))) (c.in_ok-plan-in-Callee.ensures E ∙ ap (λ t. meaning E t collect c.in-Callee.env) c.node.ensures)))) c.then_values.ensures;
}

pub returns-in-NewCallee : goal.returns-in-NewCallee
returns-in-NewCallee c = record {
  does = IfOk-weaker c.then_values-in-NewCallee.result _ _ (λ p h E.
      ap (λ f. at c.args.world.now (after_operand_of E f (value_of c.args.value) (value_of c.args.this))) c.in-NewCallee.is
      ∙ ap (at c.args.world.now) (sym (h E ∙ ap (λ m. with_all m (construct_value E (value_of c.args.value))) (c.in_ok-plan-in-NewCallee.ensures E ∙ ap (λ t. meaning E t collect c.in-NewCallee.env) c.node-in-NewCallee.ensures)))) c.then_values-in-NewCallee.ensures;
}
