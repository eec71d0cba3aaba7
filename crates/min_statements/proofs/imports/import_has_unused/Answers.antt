use Rattle.std.proofs.Common.{sym}
use Rattle.min_statements.proofs.Named.{none_listed_beside}
use Rattle.min_statements.proofs.imports.import_has_unused.Goals as goal

pub returns-in-Some-2 : goal.returns-in-Some-2
returns-in-Some-2 c = sym (none_listed_beside c.args.facts.now c.args.at c.args.children.now c.in-Some-2.len_at_least)
