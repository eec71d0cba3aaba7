use Rattle.steps.proofs.KeepRuns.Steady.{row_steady}
use Rattle.steps.proofs.keep_runs.laws.what_nothing_assigns_is_steady.Goals as goal

pub returns : goal.returns
returns c = row_steady
