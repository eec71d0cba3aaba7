use Rattle.test_headline.proofs.Refused.{dead_goes, conditional_goes, tested_goes, side_goes, operation_goes, list_goes, choice_goes, branch_goes, part_goes, behind_one_goes, sides_go, object_goes, known_goes, if_holds_goes, if_fails_goes, unreached_goes, untaken_goes, acting_goes, block_goes, loop_goes, value_goes, label_goes, try_goes, body_goes, test_goes, alternate_goes}
use Rattle.test_headline.proofs.Imported.{apart_goes, shown_goes}
use Rattle.test_headline.proofs.Stated.{stated_goes}
use Rattle.test_headline.proofs.Named.{names_go}
use Rattle.test_headline.proofs.rows.dead_code_goes.Goals as goal

pub returns : goal.returns
returns c = record { number = dead_goes; conditional = conditional_goes; tested = tested_goes; side = side_goes; operation = operation_goes; list = list_goes; called = choice_goes; branch = branch_goes; idle = part_goes; behind_one = behind_one_goes; sides = sides_go; object = object_goes; known = known_goes; if_holds = if_holds_goes; if_fails = if_fails_goes; unreached = unreached_goes; untaken = untaken_goes; acting = acting_goes; block = block_goes; never_turns = loop_goes; unrun = value_goes; left_at_once = label_goes; finalizer = try_goes; body = body_goes; test = test_goes; alternate = alternate_goes; value = stated_goes; apart = apart_goes; shown = shown_goes; names = names_go }
