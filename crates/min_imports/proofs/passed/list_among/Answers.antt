use Rattle.min_imports.proofs.Naming.{several_lists}
use Rattle.min_imports.proofs.passed.list_among.Goals as goal

pub returns-in-Some-2 : goal.returns-in-Some-2
returns-in-Some-2 c = several_lists c.args.children.now c.in-Some-2.len_at_least
