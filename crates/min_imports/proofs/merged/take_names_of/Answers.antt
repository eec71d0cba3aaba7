use Rattle.js_syntax.specs.Node.{row}
use Rattle.min_imports.proofs.Planning.{only_list, no_list}
use Rattle.min_imports.proofs.merged.take_names_of.Goals as goal

pub returns-in_ok-take_names_below : goal.returns-in_ok-take_names_below
returns-in_ok-take_names_below c = only_list (row c.args.later.now) c.args.children.now c.index-children-0.result c.take_names_below.new.child c.if-children-eq1.true c.in_ok-take_names_below.ensures

pub returns-else-children-eq1 : goal.returns-else-children-eq1
returns-else-children-eq1 c = no_list (row c.args.later.now) c.args.children.now c.if-children-eq1.false
