use Rattle.std.proofs.Common.{◌∙◌, ap}
use Rattle.std.proofs.lemmas.Result.{IfOk-weaker}
use Rattle.js_meaning.specs.Host.{host_moves, report}
use Rattle.run_world.specs.World.{at, completion_of}
use Rattle.run_statement.proofs.run.report.Goals as goal

pub returns-in-Gives : goal.returns-in-Gives
returns-in-Gives c = record {
  does = IfOk-weaker c.returned.result _ _ (λ p h E.
      ap (λ t. at c.args.world.now (report (host_moves E c.args.awaited) (completion_of t))) c.in-Gives.is ∙ h E) c.returned.ensures.does;
}

pub returns-in-Throws : goal.returns-in-Throws
returns-in-Throws c = record {
  does = IfOk-weaker c.threw.result _ _ (λ p h E.
      ap (λ t. at c.args.world.now (report (host_moves E c.args.awaited) (completion_of t))) c.in-Throws.is ∙ h E) c.threw.ensures.does;
}
