use Rattle.js_meaning_near.proofs.Branches.{condition_holds, condition_fails, if_holds, if_fails}
use Rattle.js_meaning_near.proofs.laws.a_choice_comes_to_its_branch.Goals as goal

pub returns-clause-conditional : goal.returns-clause-conditional
returns-clause-conditional c = λ w st v n i j l z b d t h. condition_holds w st v n i j l z b d t h

pub returns-clause-statement : goal.returns-clause-statement
returns-clause-statement c = λ w st v n i l b r t g h. if_holds w st v n i l b r t g h

pub returns-clause-other_expression : goal.returns-clause-other_expression
returns-clause-other_expression c = λ w st v n i j l z b d t h. condition_fails w st v n i j l z b d t h

pub returns-clause-other_statement : goal.returns-clause-other_statement
returns-clause-other_statement c = λ w st v n i j l z b d t g. if_fails w st v n i j l z b d t g
