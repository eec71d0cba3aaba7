use Rattle.std.proofs.Common.{◌∙◌, ◌++◌, ap}
use Rattle.std.proofs.lemmas.Result.{IfOk-weaker}
use Rattle.js_meaning.specs.State.{done, gives_all}
use Rattle.js_meaning.specs.Node.{values}
use Rattle.js_meaning.specs.Meaning.{eval}
use Rattle.run_world.specs.World.{values_of}
use Rattle.run_plan.specs.Frame.{entry_or_now}
use Rattle.run_expression.proofs.Pushed.{push_more}
use Rattle.run_expression.proofs.operand.collected.Goals as goal

pub returns : goal.returns
returns c =
    IfOk-weaker c.collect_values.result _ _ (λ p h E. h E ∙ (λ i. values (entry_or_now c.args.entries) (eval E (c.nodes.ensures i)) c.args.env (λ vs. done (gives_all ((ap (λ xs. values_of xs ++ vs) c.in_ok-values.ensures ∙ push_more c.args.before.items c.args.value vs) i))))) c.collect_values.ensures
