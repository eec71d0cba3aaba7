use Rattle.std.proofs.Common.{sym}
use Rattle.min_statements.proofs.Named.{none_imported_beside}
use Rattle.min_statements.proofs.imports.name_goes.Goals as goal

pub returns-in-Some-2 : goal.returns-in-Some-2
returns-in-Some-2 c = sym (none_imported_beside c.args.facts.now c.args.at c.args.children.now c.in-Some-2.len_at_least)
