use Rattle.js_scoping.proofs.Again.{table_again, numbered_again, resolved_again}
use Rattle.js_scoping.proofs.laws.numbering_again_changes_nothing.Goals as goal

pub returns : goal.returns
returns c = record { table = table_again; tree = numbered_again; resolved = resolved_again }
