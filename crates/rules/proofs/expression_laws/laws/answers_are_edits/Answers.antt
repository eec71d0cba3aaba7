use Rattle.rules.specs.DeadCode.Before.{before}
use Rattle.rules.proofs.Expressions.Editing.{conditional_edits_there, logical_edits_there}
use Rattle.rules.proofs.Expressions.Unused.{unused_edits_there, none_left_there}
use Rattle.rules.proofs.Expressions.Lists.{list_edits_there}
use Rattle.rules.proofs.Expressions.Indirect.{indirect_edits_there}
use Rattle.rules.proofs.Expressions.OneSided.{one_sided_edits_there}
use Rattle.rules.proofs.Expressions.Sequences.{sequence_edits_there}
use Rattle.rules.proofs.Expressions.TwoSides.{two_sides_edits_there}
use Rattle.rules.proofs.Expressions.Objects.{object_edits_there}
use Rattle.rules.proofs.Expressions.Operations.{known_edits}
use Rattle.rules.proofs.Expressions.EmptyIfs.{empty_if_edits}
use Rattle.rules.proofs.Expressions.EmptyAlternates.{empty_alternate_edits}
use Rattle.rules.proofs.Expressions.Ifs.{if_edits}
use Rattle.rules.proofs.Expressions.Untaken.{left_edits}
use Rattle.rules.proofs.Expressions.Jumps.{list_edits}
use Rattle.rules.proofs.expression_laws.laws.answers_are_edits.Goals as goal

pub returns-clause-conditional : goal.returns-clause-conditional
returns-clause-conditional c = conditional_edits_there

pub returns-clause-logical : goal.returns-clause-logical
returns-clause-logical c = logical_edits_there

pub returns-clause-unused : goal.returns-clause-unused
returns-clause-unused c = unused_edits_there

pub returns-clause-none_left : goal.returns-clause-none_left
returns-clause-none_left c = none_left_there

pub returns-clause-list : goal.returns-clause-list
returns-clause-list c = list_edits_there

pub returns-clause-indirect : goal.returns-clause-indirect
returns-clause-indirect c = indirect_edits_there

pub returns-clause-one_sided : goal.returns-clause-one_sided
returns-clause-one_sided c = one_sided_edits_there

pub returns-clause-sequence : goal.returns-clause-sequence
returns-clause-sequence c = sequence_edits_there

pub returns-clause-two_sides : goal.returns-clause-two_sides
returns-clause-two_sides c = two_sides_edits_there

pub returns-clause-object : goal.returns-clause-object
returns-clause-object c = object_edits_there

pub returns-clause-known : goal.returns-clause-known
returns-clause-known c a x y rest = known_edits (before a rest) x y

pub returns-clause-statement : goal.returns-clause-statement
returns-clause-statement c = if_edits

pub returns-clause-untaken : goal.returns-clause-untaken
returns-clause-untaken c = left_edits

pub returns-clause-items : goal.returns-clause-items
returns-clause-items c = list_edits

pub returns-clause-test : goal.returns-clause-test
returns-clause-test c = empty_if_edits

pub returns-clause-alternate : goal.returns-clause-alternate
returns-clause-alternate c = λ a x y rest e. empty_alternate_edits a rest x y e
