use Rattle.js_meaning_near.proofs.Spared.{logical_wasted, conditional_wasted}
use Rattle.js_meaning_near.proofs.laws.unused_choices_waste_their_tests.Goals as goal

pub returns-clause-logical : goal.returns-clause-logical
returns-clause-logical c = λ st o k l n i m j a b ps q x. logical_wasted st o k l n i m j a b ps q x

pub returns-clause-conditional : goal.returns-clause-conditional
returns-clause-conditional c = λ st k l z n i m o j a b d ps q p x. conditional_wasted st k l z n i m o j a b d ps q p x
