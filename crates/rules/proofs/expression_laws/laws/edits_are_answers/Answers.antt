use Rattle.rules.specs.DeadCode.Before.{before}
use Rattle.rules.proofs.Expressions.Editing.{conditional_answers_there, logical_answers_there}
use Rattle.rules.proofs.Expressions.Unused.{unused_answers_there}
use Rattle.rules.proofs.Expressions.Lists.{list_answers_there}
use Rattle.rules.proofs.Expressions.Indirect.{indirect_answers_there}
use Rattle.rules.proofs.Expressions.OneSided.{one_sided_answers_there}
use Rattle.rules.proofs.Expressions.Sequences.{sequence_answers_there}
use Rattle.rules.proofs.Expressions.TwoSides.{two_sides_answers_there}
use Rattle.rules.proofs.Expressions.Objects.{object_answers_there}
use Rattle.rules.proofs.Expressions.Operations.{known_answers}
use Rattle.rules.proofs.Expressions.EmptyIfs.{empty_if_answers}
use Rattle.rules.proofs.Expressions.EmptyAlternates.{empty_alternate_answers}
use Rattle.rules.proofs.Expressions.Ifs.{known_if_answers, dead_if_answers, idle_try_answers}
use Rattle.rules.proofs.expression_laws.laws.edits_are_answers.Goals as goal

pub returns-clause-conditional : goal.returns-clause-conditional
returns-clause-conditional c = conditional_answers_there

pub returns-clause-logical : goal.returns-clause-logical
returns-clause-logical c = logical_answers_there

pub returns-clause-unused : goal.returns-clause-unused
returns-clause-unused c = unused_answers_there

pub returns-clause-list : goal.returns-clause-list
returns-clause-list c = list_answers_there

pub returns-clause-indirect : goal.returns-clause-indirect
returns-clause-indirect c = indirect_answers_there

pub returns-clause-one_sided : goal.returns-clause-one_sided
returns-clause-one_sided c = one_sided_answers_there

pub returns-clause-sequence : goal.returns-clause-sequence
returns-clause-sequence c = sequence_answers_there

pub returns-clause-two_sides : goal.returns-clause-two_sides
returns-clause-two_sides c = two_sides_answers_there

pub returns-clause-object : goal.returns-clause-object
returns-clause-object c = object_answers_there

pub returns-clause-known : goal.returns-clause-known
returns-clause-known c a x z rest = known_answers (before a rest) x z

pub returns-clause-known_if : goal.returns-clause-known_if
returns-clause-known_if c = known_if_answers

pub returns-clause-dead_if : goal.returns-clause-dead_if
returns-clause-dead_if c = dead_if_answers

pub returns-clause-idle_try : goal.returns-clause-idle_try
returns-clause-idle_try c = idle_try_answers

pub returns-clause-empty_if : goal.returns-clause-empty_if
returns-clause-empty_if c = empty_if_answers

pub returns-clause-empty_alternate : goal.returns-clause-empty_alternate
returns-clause-empty_alternate c = λ a x y rest o. empty_alternate_answers a rest x y o
