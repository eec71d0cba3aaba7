use Rattle.js_meaning_near.proofs.Gone.{gone_recovers, rewritten_recovers, owing_place, gone_rewritten, silent_place}
use Rattle.js_meaning_near.proofs.laws.a_call_that_leaves_costs_one_entry_at_most.Goals as goal

pub returns-clause-module : goal.returns-clause-module
returns-clause-module c = gone_recovers

pub returns-clause-functions : goal.returns-clause-functions
returns-clause-functions c = rewritten_recovers

pub returns-clause-place : goal.returns-clause-place
returns-clause-place c = λ us p x f pure n m a b r s e g y t. owing_place f e g y t

pub returns-clause-kept : goal.returns-clause-kept
returns-clause-kept c = λ p x a b g. gone_rewritten g

pub returns-clause-kept_place : goal.returns-clause-kept_place
returns-clause-kept_place c = λ us p x f pure n m a b r s e g y t. silent_place f e g y t
