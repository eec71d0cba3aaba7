use Rattle.steps.proofs.Allowed.Tried.{import_goes, imported_read_stays}
use Rattle.steps.proofs.allowed_laws.rows.unused_names_of_imports_go.Goals as goal

pub returns : goal.returns
returns c = record { unused = import_goes; read = imported_read_stays }
