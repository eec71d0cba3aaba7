use Rattle.steps.proofs.Allowed.Tried.{dead_if_empties, dead_if_empties_alone, negated_if_empties, dead_let_empties, dead_try_empties, dead_block_with_try_empties, dead_try_with_var_stays, dead_loop_empties, dead_loop_with_var_stays, dead_var_stays, dead_function_stays, acting_if_stays}
use Rattle.steps.proofs.allowed_laws.rows.dead_ifs_become_empty.Goals as goal

pub returns : goal.returns
returns c = record { call = dead_if_empties; alone = dead_if_empties_alone; negated = negated_if_empties; with_let = dead_let_empties; handled = dead_try_empties; handled_in_block = dead_block_with_try_empties; handled_with_var = dead_try_with_var_stays; looped = dead_loop_empties; looped_with_var = dead_loop_with_var_stays; with_var = dead_var_stays; function = dead_function_stays; acting = acting_if_stays }
