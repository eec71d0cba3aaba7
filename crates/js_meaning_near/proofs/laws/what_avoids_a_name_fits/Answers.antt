use Rattle.js_meaning_near.proofs.Avoid.{fits_avoiding}
use Rattle.js_meaning_near.proofs.laws.what_avoids_a_name_fits.Goals as goal

pub returns : goal.returns
returns c = fits_avoiding
