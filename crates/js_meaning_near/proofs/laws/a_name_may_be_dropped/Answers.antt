use Rattle.js_meaning_near.proofs.Avoid.{dropped_decls}
use Rattle.js_meaning_near.proofs.laws.a_name_may_be_dropped.Goals as goal

pub returns : goal.returns
returns c = λ x st ds es d y. dropped_decls x st d y
