use Rattle.js_meaning_near.proofs.Branches.{silent_part_leaves, holds_bare}
use Rattle.js_meaning_near.proofs.laws.a_silent_part_leaves_a_sequence.Goals as goal

pub returns-clause-leaves : goal.returns-clause-leaves
returns-clause-leaves c = λ w st k l a b n i j s h. silent_part_leaves w st k l a b n i j s h

pub returns-clause-bare : goal.returns-clause-bare
returns-clause-bare c = λ w st v z n i j m o p l y b d t. holds_bare w st v z n i j m o p l y b d t
