use Rattle.min_statements.proofs.Declaring.{names_of_more}
use Rattle.min_statements.proofs.vars.has_names.Goals as goal

pub returns-in_default-3 : goal.returns-in_default-3
returns-in_default-3 c = names_of_more c.args.children.now c.in_default.len_at_least
