use Rattle.min_imports.proofs.Naming.{several_references}
use Rattle.min_imports.proofs.passed.reference_alone.Goals as goal

pub returns-in-Some-2 : goal.returns-in-Some-2
returns-in-Some-2 c = several_references c.args.children.now c.in-Some-2.len_at_least
