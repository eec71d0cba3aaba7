use Rattle.rules_clean.proofs.Tried.{module_is_known, module_is_quiet, module_is_dead}
use Rattle.rules_clean.proofs.rows.what_is_not_known_exactly_takes_less.Goals as goal

pub returns : goal.returns
returns c = record { known = module_is_known; stays = module_is_quiet; dead = module_is_dead }
