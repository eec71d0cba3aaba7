use Rattle.min_statements.proofs.Merging.{only_comes, no_only, child_same, refused_there}
use Rattle.min_statements.proofs.merged.merge_only.Goals as goal

pub returns-then-children-eq1-clause-comes : goal.returns-then-children-eq1-clause-comes
returns-then-children-eq1-clause-comes c = only_comes c.args.children.now c.index-children-0.result c.merge_child.new.child c.in_ok-merged.merged c.if-children-eq1.true c.in_ok-merged.ensures.comes

pub returns-in_err-merged-clause-refused : goal.returns-in_err-merged-clause-refused
returns-in_err-merged-clause-refused c = refused_there c.from_residual.result (child_same c.args.children.now c.index-children-0.result c.merge_child.new.child c.in_err-merged.ensures.refused)

pub returns-clause-comes : goal.returns-clause-comes
returns-clause-comes c = no_only c.args.children.now c.if-children-eq1.false
