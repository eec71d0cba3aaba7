use Rattle.std.proofs.Common.{refl}
use Rattle.steps.proofs.Allowed.TriedMerged.{names_together, default_comes_in_front, second_default_is_named, default_beside_namespace, other_module_stays, evaluated_stays}
use Rattle.steps.proofs.allowed_laws.rows.imports_of_one_module_become_one.Goals as goal

pub returns : goal.returns
returns c = record { named = names_together; default_in_front = default_comes_in_front; further_default = second_default_is_named; namespace = default_beside_namespace; beside_namespace = refl; two_namespaces = refl; two_defaults = refl; other = other_module_stays; eval = evaluated_stays }
