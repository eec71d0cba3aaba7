use Rattle.min_imports.proofs.Binding.{several_behind}
use Rattle.min_imports.proofs.passing.specifiers_of.Goals as goal

pub returns-in-None-2 : goal.returns-in-None-2
returns-in-None-2 c = several_behind c.args.children.now c.in-None-2.len_at_least
