use Rattle.std.proofs.Common.{◌∙◌, ap, sym}
use Rattle.std.proofs.lemmas.Result.{IfOk-weaker}
use Rattle.js_meaning.specs.Host.{while_loop, do_loop, for_loop}
use Rattle.js_meaning.specs.Statement.{test_then}
use Rattle.js_meaning.specs.Meaning.{eval}
use Rattle.run_world.specs.World.{at}
use Rattle.run_plan.specs.Ask.{loop_of}
use Rattle.run_plan.specs.Frame.{again}
use Rattle.run_statement.proofs.turn.again.Goals as goal

pub returns-in-While : goal.returns-in-While
returns-in-While c = record {
  does = IfOk-weaker c.test_loop.result _ _ (λ p h E.
      ap (λ l. at c.args.world.now (again E (loop_of l) c.args.nodes.now (eval E c.args.nodes.now) c.args.labels c.args.env)) c.in-While.is
      ∙ ap (λ t. at c.args.world.now (test_then E while_loop t (eval E t) c.args.labels c.args.env)) (sym c.nodes.ensures)
      ∙ ap (at c.args.world.now) (sym (h E))) c.test_loop.ensures;
}

pub returns-in-DoWhile : goal.returns-in-DoWhile
returns-in-DoWhile c = record {
  does = IfOk-weaker c.test_loop-in-DoWhile.result _ _ (λ p h E.
      ap (λ l. at c.args.world.now (again E (loop_of l) c.args.nodes.now (eval E c.args.nodes.now) c.args.labels c.args.env)) c.in-DoWhile.is
      ∙ ap (λ t. at c.args.world.now (test_then E do_loop t (eval E t) c.args.labels c.args.env)) (sym c.nodes-in-DoWhile.ensures)
      ∙ ap (at c.args.world.now) (sym (h E))) c.test_loop-in-DoWhile.ensures;
}

pub returns-in-For : goal.returns-in-For
returns-in-For c = record {
  does = IfOk-weaker c.again_for.result _ _ (λ p h E.
      ap (λ l. at c.args.world.now (again E (loop_of l) c.args.nodes.now (eval E c.args.nodes.now) c.args.labels c.args.env)) c.in-For.is
      ∙ ap (λ t. at c.args.world.now (again E for_loop t (eval E t) c.args.labels c.args.env)) (sym c.nodes-in-For.ensures)
      ∙ h E) c.again_for.ensures.does;
}
