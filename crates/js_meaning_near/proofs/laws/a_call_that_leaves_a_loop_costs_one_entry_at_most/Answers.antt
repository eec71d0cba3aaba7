use Rattle.js_meaning_near.proofs.Gone.{owing_while, owing_do, owing_for, silent_while, silent_do, silent_for}
use Rattle.js_meaning_near.proofs.laws.a_call_that_leaves_a_loop_costs_one_entry_at_most.Goals as goal

pub returns-clause-while_loop : goal.returns-clause-while_loop
returns-clause-while_loop c = λ us p x n m a b r s g t. owing_while g t

pub returns-clause-do_loop : goal.returns-clause-do_loop
returns-clause-do_loop c = λ us p x n m a b r s g t. owing_do g t

pub returns-clause-for_loop : goal.returns-clause-for_loop
returns-clause-for_loop c = λ us p x n m a b r s e g t. owing_for e g t

pub returns-clause-kept_while : goal.returns-clause-kept_while
returns-clause-kept_while c = λ us p x n m a b r s g t. silent_while g t

pub returns-clause-kept_do : goal.returns-clause-kept_do
returns-clause-kept_do c = λ us p x n m a b r s g t. silent_do g t

pub returns-clause-kept_for : goal.returns-clause-kept_for
returns-clause-kept_for c = λ us p x n m a b r s e g t. silent_for e g t
