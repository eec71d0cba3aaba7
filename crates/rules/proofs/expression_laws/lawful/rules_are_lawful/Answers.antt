use Rattle.rules.proofs.Expressions.Folding.{conditionals_fold, logicals_fold, unused_fold, lists_fold, indirect_fold, one_sided_fold, sequences_fold, two_sides_fold, objects_fold, known_fold, ifs_fold, tests_fold, alternates_fold, ifs_rid, jumps_cut, expressions_fold}
use Rattle.rules.proofs.expression_laws.lawful.rules_are_lawful.Goals as goal

pub returns-clause-conditional : goal.returns-clause-conditional
returns-clause-conditional g c = conditionals_fold g.T.Traverse.edit

pub returns-clause-logical : goal.returns-clause-logical
returns-clause-logical g c = logicals_fold g.T.Traverse.edit

pub returns-clause-unused : goal.returns-clause-unused
returns-clause-unused g c = unused_fold g.T.Traverse.edit

pub returns-clause-list : goal.returns-clause-list
returns-clause-list g c = lists_fold g.T.Traverse.edit

pub returns-clause-indirect : goal.returns-clause-indirect
returns-clause-indirect g c = indirect_fold g.T.Traverse.edit

pub returns-clause-one_sided : goal.returns-clause-one_sided
returns-clause-one_sided g c = one_sided_fold g.T.Traverse.edit

pub returns-clause-sequence : goal.returns-clause-sequence
returns-clause-sequence g c = sequences_fold g.T.Traverse.edit

pub returns-clause-two_sides : goal.returns-clause-two_sides
returns-clause-two_sides g c = two_sides_fold g.T.Traverse.edit

pub returns-clause-object : goal.returns-clause-object
returns-clause-object g c = objects_fold g.T.Traverse.edit

pub returns-clause-known : goal.returns-clause-known
returns-clause-known g c = known_fold g.T.Traverse.edit

pub returns-clause-statement : goal.returns-clause-statement
returns-clause-statement g c = ifs_fold g.T.Traverse.edit

pub returns-clause-untaken : goal.returns-clause-untaken
returns-clause-untaken g c = ifs_rid g.T.Traverse.edit

pub returns-clause-jumps : goal.returns-clause-jumps
returns-clause-jumps g c = jumps_cut g.T.Traverse.edit

pub returns-clause-all : goal.returns-clause-all
returns-clause-all g c = expressions_fold g.T.Traverse.edit

pub returns-clause-empty_if : goal.returns-clause-empty_if
returns-clause-empty_if g c = tests_fold g.T.Traverse.edit

pub returns-clause-empty_alternate : goal.returns-clause-empty_alternate
returns-clause-empty_alternate g c = alternates_fold g.T.Traverse.edit
