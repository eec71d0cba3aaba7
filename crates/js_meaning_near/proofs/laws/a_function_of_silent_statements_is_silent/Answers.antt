use Rattle.js_meaning_near.proofs.Bodies.{quiet_code, own_silent}
use Rattle.js_meaning_near.proofs.laws.a_function_of_silent_statements_is_silent.Goals as goal

pub returns-clause-code : goal.returns-clause-code
returns-clause-code c = quiet_code

pub returns-clause-own_name : goal.returns-clause-own_name
returns-clause-own_name c = λ st a b x h. own_silent st a x b h
