use Rattle.steps.proofs.Allowed.Tried.{empties_in_list, empties_alone, leaves_then, this_empties}
use Rattle.steps.proofs.allowed_laws.rows.silent_statements_go.Goals as goal

pub returns : goal.returns
returns c = record { in_a_list = empties_in_list; alone = empties_alone; then = leaves_then; this = this_empties }
