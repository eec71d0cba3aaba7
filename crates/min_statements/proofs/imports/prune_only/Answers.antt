use Rattle.min_statements.proofs.Kept.{only_left, no_list}
use Rattle.min_statements.proofs.imports.prune_only.Goals as goal

pub returns-then-children-eq1 : goal.returns-then-children-eq1
returns-then-children-eq1 c = only_left c.args.facts.now c.args.at c.args.children.now c.index-children-0.result c.prune_list_of.new.child c.if-children-eq1.true c.prune_list_of.ensures

pub returns-else-children-eq1 : goal.returns-else-children-eq1
returns-else-children-eq1 c = no_list c.args.facts.now c.args.at c.args.children.now c.if-children-eq1.false
