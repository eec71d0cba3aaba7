use Rattle.js_meaning_near.proofs.Instances.{bare_value, bare_callee}
use Rattle.js_meaning_near.proofs.examples.a_branch_comes_out_bare.Goals as goal

pub returns-clause-value : goal.returns-clause-value
returns-clause-value c = λ n v l z b d r t h p y. bare_value n v l z b d r t h p y

pub returns-clause-callee : goal.returns-clause-callee
returns-clause-callee c = λ n pure v l z b d es r t h p y. bare_callee n pure v l z b d es r t h p y
