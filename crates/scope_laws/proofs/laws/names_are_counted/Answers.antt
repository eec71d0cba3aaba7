use Rattle.scope_laws.proofs.Around.{references_count, bindings_count, total_plug}
use Rattle.scope_laws.proofs.laws.names_are_counted.Goals as goal

pub returns : goal.returns
returns c = record { references = references_count; declarations = bindings_count; around = total_plug }
