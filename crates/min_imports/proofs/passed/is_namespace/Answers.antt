use Rattle.min_imports.proofs.Naming.{several_names}
use Rattle.min_imports.proofs.passed.is_namespace.Goals as goal

pub returns-in-Some-2 : goal.returns-in-Some-2
returns-in-Some-2 c = several_names c.args.names.now c.in-Some-2.len_at_least
