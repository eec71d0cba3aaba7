use Rattle.js_meaning_near.proofs.Avoid.{fits_clear}
use Rattle.js_meaning_near.proofs.laws.what_is_in_place_fits.Goals as goal

pub returns : goal.returns
returns c = fits_clear
