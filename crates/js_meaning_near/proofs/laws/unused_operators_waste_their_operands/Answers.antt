use Rattle.js_meaning_near.proofs.Spared.{unary_wasted, binary_wasted}
use Rattle.js_meaning_near.proofs.laws.unused_operators_waste_their_operands.Goals as goal

pub returns-clause-unary : goal.returns-clause-unary
returns-clause-unary c = λ st o k n i j a ps t h x. unary_wasted st o k n i j a ps t h x

pub returns-clause-binary : goal.returns-clause-binary
returns-clause-binary c = λ st o k l n i m j a b ps t x. binary_wasted st o k l n i m j a b ps t x
