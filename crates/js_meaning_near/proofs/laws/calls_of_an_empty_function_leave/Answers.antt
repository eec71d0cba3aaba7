use Rattle.js_meaning_near.proofs.Empty.{empty_calls}
use Rattle.js_meaning_near.proofs.laws.calls_of_an_empty_function_leave.Goals as goal

pub returns : goal.returns
returns c = λ n m o i j k l pure x r s d t e f g. empty_calls n m o i j k l pure x r s d t e f g
