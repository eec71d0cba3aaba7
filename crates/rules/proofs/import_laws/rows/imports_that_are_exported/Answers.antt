use Rattle.std.proofs.Common.{refl}
use Rattle.json_text.specs.Text.{is_identifier_name}
use Rattle.rules.proofs.import_laws.rows.imports_that_are_exported.Goals as goal

pub returns : goal.returns
unfolding is_identifier_name
returns c = record { one = refl; several = refl; namespace = refl; quoted = refl; two = refl; whole = refl }
