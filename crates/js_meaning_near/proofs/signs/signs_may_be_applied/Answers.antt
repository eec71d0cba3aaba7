use Rattle.js_meaning_near.proofs.Signed.{module_signed_refines}
use Rattle.js_meaning_near.proofs.signs.signs_may_be_applied.Goals as goal

pub returns : goal.returns
returns c = module_signed_refines
