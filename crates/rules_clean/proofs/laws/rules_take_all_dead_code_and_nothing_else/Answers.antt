use Rattle.rules_clean.proofs.Cleaned.{clean_if_quiet}
use Rattle.rules_clean.proofs.laws.rules_take_all_dead_code_and_nothing_else.Goals as goal

pub returns : goal.returns
returns c = clean_if_quiet
