use Rattle.std.proofs.Common.{◌∙◌}
use Rattle.std.proofs.lemmas.Result.{IfOk-weaker}
use Rattle.js_meaning.specs.Trace.{Act}
use Rattle.js_meaning.specs.Show.{emit}
use Rattle.js_meaning.specs.Host.{host_moves}
use Rattle.run_statement.proofs.run.returned.Goals as goal

pub returns : goal.returns
returns c = record {
  does = IfOk-weaker c.tells.result _ _ (λ p h E.
      c.in_ok-shown.ensures.does (λ x. emit (Act.returned x) (host_moves E c.args.awaited)) ∙ h E) c.tells.ensures.does;
}
