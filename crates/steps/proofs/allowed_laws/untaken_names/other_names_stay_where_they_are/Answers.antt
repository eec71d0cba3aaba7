use Rattle.steps.proofs.Allowed.TriedNames.{other_names_stay, pattern_stays, block_stays, nameless_stays, body_stays, taken_stays, may_be_taken_stays, function_code_stays}
use Rattle.steps.proofs.allowed_laws.untaken_names.other_names_stay_where_they_are.Goals as goal

pub returns : goal.returns
returns c = record { function = other_names_stay; pattern = pattern_stays; nameless = nameless_stays; whole_block = block_stays; body = body_stays; runs = taken_stays; may_run = may_be_taken_stays; code = function_code_stays }
