use Rattle.js_meaning_near.specs.Near.{first_stays, second_stays}
use Rattle.js_meaning_near.specs.Local.{for_sides, for_sequence}
use Rattle.js_meaning_near.proofs.laws.one_side_of_a_choice_may_stay.Goals as goal

pub returns-clause-first : goal.returns-clause-first
returns-clause-first c = λ u k l z n i j a b d g q. for_sides g (λ st. first_stays (q st))

pub returns-clause-second : goal.returns-clause-second
returns-clause-second c = λ u k l z n i j a b d g q. for_sides g (λ st. second_stays (q st))

pub returns-clause-sequence : goal.returns-clause-sequence
returns-clause-sequence c = λ u n es ps s. for_sequence s
