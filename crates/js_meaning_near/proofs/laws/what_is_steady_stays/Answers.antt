use Rattle.js_meaning_near.proofs.Steady.{steady_rows, steady_behind, steady_around, steady_around_code}
use Rattle.js_meaning_near.proofs.laws.what_is_steady_stays.Goals as goal

pub returns-clause-stays : goal.returns-clause-stays
returns-clause-stays c = λ us p x f a y. steady_rows x f p a y

pub returns-clause-behind : goal.returns-clause-behind
returns-clause-behind c = λ us p x f k n a r s y t. steady_behind x f y t

pub returns-clause-around : goal.returns-clause-around
returns-clause-around c = λ us p x f k n m a b r i o y e d t. steady_around x f i o y e d t

pub returns-clause-around_code : goal.returns-clause-around_code
returns-clause-around_code c = λ us p x f h pure n m a b r i y d t. steady_around_code x f i y d t
