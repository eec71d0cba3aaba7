use Rattle.js_meaning_near.proofs.Calls.{identity_calls, identity_leaves}
use Rattle.js_meaning_near.proofs.Gone.{identity_recovers}
use Rattle.js_meaning_near.proofs.examples.a_call_of_a_silent_function_leaves.Goals as goal

pub returns-clause-one_acts : goal.returns-clause-one_acts
returns-clause-one_acts c = λ n x y f v r d e g. identity_calls n x y f v r d e g

pub returns-clause-none_acts : goal.returns-clause-none_acts
returns-clause-none_acts c = λ n x y v r d e f g. identity_leaves n x y v r d e f g

pub returns-clause-comes_back : goal.returns-clause-comes_back
returns-clause-comes_back c = λ n x y f v r d e g. identity_recovers n x y f v r d e g
