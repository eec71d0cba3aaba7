use Rattle.js_meaning_near.proofs.Spared.{spared}
use Rattle.js_meaning_near.proofs.laws.an_expression_may_waste_less.Goals as goal

pub returns : goal.returns
returns c = λ u k i j a ps g y h t x. spared u k i j a ps g y h t x
