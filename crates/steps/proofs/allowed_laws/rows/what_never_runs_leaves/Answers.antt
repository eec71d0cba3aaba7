use Rattle.steps.proofs.Allowed.TriedExpressions.{unreached_call_leaves, unreached_further_leaves, unreached_debugger_leaves, unreached_by_block_leaves, unreached_by_branches_leaves, behind_one_branch_stays, behind_label_stays, unreached_declaration_stays, unreached_declares_stays, front_stays}
use Rattle.steps.proofs.allowed_laws.rows.what_never_runs_leaves.Goals as goal

pub returns : goal.returns
returns c = record { call = unreached_call_leaves; further = unreached_further_leaves; debugger = unreached_debugger_leaves; block = unreached_by_block_leaves; branches = unreached_by_branches_leaves; one_branch = behind_one_branch_stays; label = behind_label_stays; declaration = unreached_declaration_stays; declares = unreached_declares_stays; front = front_stays }
