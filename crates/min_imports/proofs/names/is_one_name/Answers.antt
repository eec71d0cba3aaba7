use Rattle.min_imports.proofs.Lists.{two_items}
use Rattle.min_imports.proofs.names.is_one_name.Goals as goal

pub returns-in-Some-2 : goal.returns-in-Some-2
returns-in-Some-2 c = two_items c.args.children.now c.in-Some-2.len_at_least
