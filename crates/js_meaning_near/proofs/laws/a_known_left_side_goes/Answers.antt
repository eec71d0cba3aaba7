use Rattle.js_meaning_near.proofs.Branches.{right_side_counts, left_side_decides}
use Rattle.js_meaning_near.proofs.laws.a_known_left_side_goes.Goals as goal

pub returns-clause-right : goal.returns-clause-right
returns-clause-right c = λ w st o v n i l b t h. right_side_counts w st o v n i l b t h

pub returns-clause-left : goal.returns-clause-left
returns-clause-left c = λ w st o v n i l b d t. left_side_decides w st o v n i l b d t
