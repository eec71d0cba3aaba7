use Rattle.js_meaning_near.proofs.Texts.{first_text_wasted, second_text_wasted}
use Rattle.js_meaning_near.proofs.laws.a_text_in_an_unused_sum_may_be_another.Goals as goal

pub returns-clause-first : goal.returns-clause-first
returns-clause-first c = λ st s t k n m i h j a b d. first_text_wasted st s t k n m i h j a b d

pub returns-clause-second : goal.returns-clause-second
returns-clause-second c = λ st s t k n m i h j a b d. second_text_wasted st s t k n m i h j a b d
