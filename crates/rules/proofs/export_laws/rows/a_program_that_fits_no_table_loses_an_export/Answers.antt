use Rattle.rules.proofs.Export.Tried.{torn_becomes, torn_exports, none_behind, torn_is_unfit}
use Rattle.rules.proofs.export_laws.rows.a_program_that_fits_no_table_loses_an_export.Goals as goal

pub returns : goal.returns
returns c = record { edits = torn_becomes; before = torn_exports; behind = none_behind; unfit = torn_is_unfit }
