use Rattle.test_headline.proofs.Dead.{number_is_dead, empty_is_dead, function_is_dead, declarator_is_dead, import_is_dead, conditional_is_dead, tested_object_is_dead, tested_is_dead, side_is_dead, operation_is_dead, list_is_dead, choice_is_dead, branch_is_dead, part_is_dead, behind_one_is_dead, sides_are_dead, object_is_dead, known_is_dead, if_holds_is_dead, if_fails_is_dead, unreached_is_dead, untaken_is_dead, acting_is_dead, block_is_dead, loop_is_dead, value_is_dead, repeated_is_dead, label_is_dead, try_is_dead, body_is_dead, test_is_dead, alternate_is_dead}
use Rattle.test_headline.proofs.Imported.{apart_is_dead, shown_is_dead}
use Rattle.test_headline.proofs.Stated.{stated_is_dead}
use Rattle.test_headline.proofs.Named.{names_are_dead}
use Rattle.test_headline.proofs.rows.dead_code_is_told.Goals as goal

pub returns : goal.returns
returns c = record { number = number_is_dead; empty = empty_is_dead; function = function_is_dead; declarator = declarator_is_dead; import_name = import_is_dead; conditional = conditional_is_dead; tested_object = tested_object_is_dead; tested = tested_is_dead; side = side_is_dead; operation = operation_is_dead; list = list_is_dead; called = choice_is_dead; branch = branch_is_dead; idle = part_is_dead; behind_one = behind_one_is_dead; sides = sides_are_dead; object = object_is_dead; known = known_is_dead; if_holds = if_holds_is_dead; if_fails = if_fails_is_dead; unreached = unreached_is_dead; untaken = untaken_is_dead; acting = acting_is_dead; block = block_is_dead; never_turns = loop_is_dead; unrun = value_is_dead; repeated = repeated_is_dead; left_at_once = label_is_dead; finalizer = try_is_dead; body = body_is_dead; test = test_is_dead; alternate = alternate_is_dead; value = stated_is_dead; apart = apart_is_dead; shown = shown_is_dead; names = names_are_dead }
