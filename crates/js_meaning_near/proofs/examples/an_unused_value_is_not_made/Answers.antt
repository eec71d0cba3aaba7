use Rattle.js_meaning_near.proofs.Instances.{array_unused, choice_unused, branch_unused}
use Rattle.js_meaning_near.proofs.examples.an_unused_value_is_not_made.Goals as goal

pub returns-clause-array : goal.returns-clause-array
returns-clause-array c = λ n v k l a b r p y. array_unused n v k l a b r p y

pub returns-clause-choice : goal.returns-clause-choice
returns-clause-choice c = λ n v k l a b r p y. choice_unused n v k l a b r p y

pub returns-clause-branch : goal.returns-clause-branch
returns-clause-branch c = λ n k l a b r h p y. branch_unused n k l a b r h p y
