use Rattle.test_headline.proofs.Dead.{misplaced_goes, misplaced_is_dead, nothing_declared_fits, nothing_declared_is_clean, nothing_declared_stays}
use Rattle.test_headline.proofs.rows.rules_take_dead_code_alone.Goals as goal

pub returns : goal.returns
returns c = record { dead = misplaced_is_dead; goes = misplaced_goes; fits = nothing_declared_fits; clean = nothing_declared_is_clean; stays = nothing_declared_stays }
