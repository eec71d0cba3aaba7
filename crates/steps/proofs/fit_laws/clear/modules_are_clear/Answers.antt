use Rattle.steps.proofs.Fit.Rows.{clear_with_blocks}
use Rattle.steps.proofs.fit_laws.clear.modules_are_clear.Goals as goal

pub returns : goal.returns
returns c = clear_with_blocks
