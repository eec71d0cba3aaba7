use Rattle.std.proofs.Common.{◌∙◌, ap, sym}
use Rattle.std.proofs.lemmas.Result.{IfOk-weaker}
use Rattle.js_meaning.specs.Host.{consult}
use Rattle.run_value.specs.Trace.{act_of}
use Rattle.run_world.specs.World.{at}
use Rattle.run_plan.specs.Frame.{plans}
use Rattle.run_plan.proofs.Law.{goes_on}
use Rattle.run_operations.proofs.host.consults.Goals as goal

pub returns-clause-follows : goal.returns-clause-follows
returns-clause-follows c =
    IfOk-weaker c.goes.result _ _ (λ p h E k. goes_on c.args.world.now c.consult.new.world (consult E (act_of c.args.act)) (plans E p) k (c.in_ok-next.ensures.does E ∙ ap (at c.consult.new.world) (sym (h E)))) c.goes.ensures
