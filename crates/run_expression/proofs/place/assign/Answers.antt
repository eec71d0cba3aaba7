use Rattle.std.proofs.Common.{◌∙◌, ap}
use Rattle.std.proofs.lemmas.Result.{IfOk-weaker}
use Rattle.js_meaning.specs.Node.{now}
use Rattle.js_meaning.specs.Expression.{assign}
use Rattle.run_world.specs.World.{at, place_of}
use Rattle.run_plan.specs.Frame.{meaning}
use Rattle.run_expression.proofs.place.assign.Goals as goal

pub returns-in-Addition : goal.returns-in-Addition
returns-in-Addition c = record {
  does = IfOk-weaker c.compound.result _ _ (λ p h E. ap (λ o. at c.args.world.now (assign E o (place_of c.args.place) (meaning E c.args.right now c.args.env))) c.in-Addition.is ∙ h E) c.compound.ensures.does;
}

pub returns-in-Subtraction : goal.returns-in-Subtraction
returns-in-Subtraction c = record {
  does = IfOk-weaker c.compound-in-Subtraction.result _ _ (λ p h E. ap (λ o. at c.args.world.now (assign E o (place_of c.args.place) (meaning E c.args.right now c.args.env))) c.in-Subtraction.is ∙ h E) c.compound-in-Subtraction.ensures.does;
}

pub returns-in-Multiplication : goal.returns-in-Multiplication
returns-in-Multiplication c = record {
  does = IfOk-weaker c.compound-in-Multiplication.result _ _ (λ p h E. ap (λ o. at c.args.world.now (assign E o (place_of c.args.place) (meaning E c.args.right now c.args.env))) c.in-Multiplication.is ∙ h E) c.compound-in-Multiplication.ensures.does;
}

pub returns-in-Division : goal.returns-in-Division
returns-in-Division c = record {
  does = IfOk-weaker c.compound-in-Division.result _ _ (λ p h E. ap (λ o. at c.args.world.now (assign E o (place_of c.args.place) (meaning E c.args.right now c.args.env))) c.in-Division.is ∙ h E) c.compound-in-Division.ensures.does;
}

pub returns-in-Remainder : goal.returns-in-Remainder
returns-in-Remainder c = record {
  does = IfOk-weaker c.compound-in-Remainder.result _ _ (λ p h E. ap (λ o. at c.args.world.now (assign E o (place_of c.args.place) (meaning E c.args.right now c.args.env))) c.in-Remainder.is ∙ h E) c.compound-in-Remainder.ensures.does;
}

pub returns-in-LogicalAnd : goal.returns-in-LogicalAnd
returns-in-LogicalAnd c = record {
  does = IfOk-weaker c.short.result _ _ (λ p h E. ap (λ o. at c.args.world.now (assign E o (place_of c.args.place) (meaning E c.args.right now c.args.env))) c.in-LogicalAnd.is ∙ h E) c.short.ensures.does;
}

pub returns-in-LogicalOr : goal.returns-in-LogicalOr
returns-in-LogicalOr c = record {
  does = IfOk-weaker c.short-in-LogicalOr.result _ _ (λ p h E. ap (λ o. at c.args.world.now (assign E o (place_of c.args.place) (meaning E c.args.right now c.args.env))) c.in-LogicalOr.is ∙ h E) c.short-in-LogicalOr.ensures.does;
}

pub returns-in-LogicalNullish : goal.returns-in-LogicalNullish
returns-in-LogicalNullish c = record {
  does = IfOk-weaker c.short-in-LogicalNullish.result _ _ (λ p h E. ap (λ o. at c.args.world.now (assign E o (place_of c.args.place) (meaning E c.args.right now c.args.env))) c.in-LogicalNullish.is ∙ h E) c.short-in-LogicalNullish.ensures.does;
}
