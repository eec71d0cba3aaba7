use Rattle.headline_text.proofs.Resolved.{table_signed}
use Rattle.headline_text.proofs.names.signs_resolve_alike.Goals as goal

pub returns : goal.returns
returns c = table_signed
