use Rattle.steps.proofs.Allowed.TriedPassed as tried
use Rattle.steps.proofs.allowed_laws.rows.imports_that_are_exported_pass.Goals as goal

pub returns : goal.returns
returns c = record { one = tried.one_passes; several = tried.several_pass; default_name = tried.default_passes; namespace = tried.namespace_passes; quoted = tried.quoted_passes; further = tried.further_name_stays; unlisted = tried.unlisted_name_stays; beside_default = tried.namespace_beside_default_stays; in_front = tried.export_in_front_stays; used = tried.used_name_stays; eval = tried.evaluated_stays }
