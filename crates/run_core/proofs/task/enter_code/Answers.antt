use Rattle.std.proofs.Common.{◌∙◌, sym, ap}
use Rattle.std.proofs.lemmas.Result.{IfOk-weaker}
use Rattle.js_syntax.specs.Node.{row}
use Rattle.js_meaning.specs.Meaning.{eval, run_code}
use Rattle.run_world.specs.World.{at, values_of}
use Rattle.run_scope.specs.Entered.{with_env}
use Rattle.run_core.proofs.task.enter_code.Goals as goal

pub returns-in-Some : goal.returns-in-Some
returns-in-Some c = record {
  does = IfOk-weaker c.run_code.result _ _ (λ p made E.
      c.in_ok-env.ensures.does (run_code (row c.args.call.below.now) (eval E (row c.args.call.below.now)) (values_of c.args.call.arguments.items))
      ∙ ap (λ o. at c.enter_function.new.world (with_env o (run_code (row c.args.call.below.now) (eval E (row c.args.call.below.now)) (values_of c.args.call.arguments.items)))) c.in-Some.is
      ∙ ap (λ m. at c.enter_function.new.world m) (sym (made E))) c.run_code.ensures;
}

pub returns : goal.returns
returns c = record {
  does = IfOk-weaker c.uncovered.result _ _ (λ p h E.
      c.in_ok-env.ensures.does (run_code (row c.args.call.below.now) (eval E (row c.args.call.below.now)) (values_of c.args.call.arguments.items))
      ∙ ap (λ o. at c.enter_function.new.world (with_env o (run_code (row c.args.call.below.now) (eval E (row c.args.call.below.now)) (values_of c.args.call.arguments.items)))) c.in-None.is
      ∙ ap (λ m. at c.enter_function.new.world m) (sym (h E))) c.uncovered.ensures;
}
