use Rattle.min_imports.proofs.Asking.{some_row}
use Rattle.min_statements.proofs.empty_ifs.is_nothing.Goals as goal

pub returns-in-len1-up : goal.returns-in-len1-up
returns-in-len1-up c = some_row c.args.children.now c.in-len1-up.len_at_least
