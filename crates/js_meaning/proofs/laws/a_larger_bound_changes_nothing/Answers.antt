use Rattle.js_meaning.proofs.Depth.{runs_stay}
use Rattle.js_meaning.proofs.laws.a_larger_bound_changes_nothing.Goals as goal

pub returns : goal.returns
returns c = runs_stay
