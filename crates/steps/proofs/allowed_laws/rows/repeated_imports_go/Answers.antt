use Rattle.std.proofs.Common.{refl}
use Rattle.steps.proofs.Allowed.Tried.{import_goes_behind_bare, import_goes_behind_names}
use Rattle.steps.proofs.allowed_laws.rows.repeated_imports_go.Goals as goal

pub returns : goal.returns
returns c = record { bare = import_goes_behind_bare; behind_names = import_goes_behind_names; behind = refl; other = refl; first = refl }
