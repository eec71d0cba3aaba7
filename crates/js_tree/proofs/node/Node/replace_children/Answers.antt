use Rattle.std.proofs.Common.{rules}
use Rattle.js_tree.proofs.node.Node.replace_children.Goals as goal

pub returns-clause-below : goal.returns-clause-below
returns-clause-below c = search rules

pub returns-clause-taken : goal.returns-clause-taken
returns-clause-taken c = search rules
