use Rattle.js_meaning_near.specs.Fit.{whole}
use Rattle.js_meaning_near.proofs.Fit.{fit}
use Rattle.js_meaning_near.proofs.laws.what_fits_is_near_itself.Goals as goal

pub returns : goal.returns
returns c = λ w p st a y. fit whole p st a y
