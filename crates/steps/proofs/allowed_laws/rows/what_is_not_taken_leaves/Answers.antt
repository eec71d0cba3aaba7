use Rattle.steps.proofs.Allowed.TriedExpressions.{untaken_consequent_leaves, untaken_alternate_leaves, untaken_further_leaves, untaken_acting_leaves, untaken_declaration_stays, taken_stays, may_be_taken_stays, function_code_stays}
use Rattle.steps.proofs.allowed_laws.rows.what_is_not_taken_leaves.Goals as goal

pub returns : goal.returns
returns c = record { consequent = untaken_consequent_leaves; alternate = untaken_alternate_leaves; further = untaken_further_leaves; acting = untaken_acting_leaves; declaration = untaken_declaration_stays; runs = taken_stays; may_run = may_be_taken_stays; function = function_code_stays }
