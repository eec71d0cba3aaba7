use Rattle.js_meaning_near.proofs.Steady.{steady_fits}
use Rattle.js_meaning_near.proofs.laws.what_is_steady_fits.Goals as goal

pub returns : goal.returns
returns c = steady_fits
