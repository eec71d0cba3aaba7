use Rattle.min_imports.proofs.Naming.{several_specifiers}
use Rattle.min_imports.proofs.passed.only_exported.Goals as goal

pub returns-in-Some-2 : goal.returns-in-Some-2
returns-in-Some-2 c = several_specifiers c.args.specifiers.now c.in-Some-2.len_at_least
