use Rattle.rules.proofs.DeadCode.Alive.{no_empty_item, no_empty_block, no_silent_statement, no_idle_body, no_unused_function, no_unused_declarator, no_value_stays}
use Rattle.rules.proofs.dead_code.quiet.what_is_quiet_has_no_dead_code.Goals as goal

pub returns : goal.returns
returns c = record { empty_statements = no_empty_item; empty_blocks = no_empty_block; silent_statements = no_silent_statement; idle_bodies = no_idle_body; functions = no_unused_function; declarators = no_unused_declarator; values = no_value_stays }
