use Rattle.test_headline.proofs.Left.{headline, operand_left, part_left, parts_left, value_left, branch_left, last_left, behind_zero_left, sides_left, held_left, known_left}
use Rattle.test_headline.proofs.Imported.{shown_left}
use Rattle.test_headline.proofs.Stated.{stated_left}
use Rattle.test_headline.proofs.Named.{names_left}
use Rattle.test_headline.proofs.rows.what_is_left.Goals as goal

pub returns : goal.returns
returns c = record { statement = headline; operand = operand_left; part = part_left; parts = parts_left; value = value_left; branch = branch_left; last = last_left; behind_zero = behind_zero_left; sides = sides_left; held = held_left; known = known_left; named = stated_left; shown = shown_left; names = names_left }
