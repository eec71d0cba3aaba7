use Rattle.std.proofs.Common.{refl}
use Rattle.js_meaning_near.specs.Names.{silent_function}
use Rattle.js_meaning_near.proofs.Known.{function_place, loose_scope}
use Rattle.js_meaning_near.proofs.Calls.{statement_place, statement_leaves, expression_place, literal_place}
use Rattle.js_meaning_near.proofs.laws.calls_of_a_silent_function_leave.Goals as goal

pub returns-clause-module : goal.returns-clause-module
returns-clause-module c = λ n m x a b d s e t r. loose_scope n m x silent_function a b refl d s e t r

pub returns-clause-declaration : goal.returns-clause-declaration
returns-clause-declaration c = λ us p x pure n a r s e q f t. function_place e q f t

pub returns-clause-statement : goal.returns-clause-statement
returns-clause-statement c = λ us p x pure n m i j k o es ps r s y q g t. statement_place o es ps y q g t

pub returns-clause-leaves : goal.returns-clause-leaves
returns-clause-leaves c = λ us x pure n m i j es r s y q t. statement_leaves es y q t

pub returns-clause-expression : goal.returns-clause-expression
returns-clause-expression c = λ us p x pure n m i j o es ps r s u v w y q g t. expression_place o es ps u v w y q g t

pub returns-clause-nothing_acts : goal.returns-clause-nothing_acts
returns-clause-nothing_acts c = λ us p x pure n m i j es r s v u y q t. literal_place es v u y q t
