use Rattle.std.proofs.Common.{◌+◌, ◌*◌, take, flat_map}
use Rattle.run_value.specs.ShownView.{shown_of, parts_of}
use Rattle.run_value.specs.ShownWeight.{shown_size, parts_size}
use Rattle.json_write.specs.Tokens.{IsAppended, data_tokens}
use Rattle.run_text.specs.Parts.{parts_datas}
use Rattle.run_text.proofs.shown.+write.Given as goal

-- how much is shown, and then how near a function is to going down
abbrev pub decreases-write_first : goal.decreases-write_first
decreases-write_first l = 8 * parts_size l.parts.now + 6

abbrev pub decreases-write_parts : goal.decreases-write_parts
decreases-write_parts l = 8 * parts_size l.parts.now + 5

abbrev pub decreases-write_each_part : goal.decreases-write_each_part
decreases-write_each_part l = 8 * parts_size (parts_of l.keys.now l.values.now) + 4

abbrev pub decreases-write_part : goal.decreases-write_part
decreases-write_part l = 8 * shown_size (shown_of l.value.now) + 2

abbrev pub decreases-write_pair : goal.decreases-write_pair
decreases-write_pair l = 8 * shown_size (shown_of l.value.now) + 1

abbrev pub decreases-write_shown : goal.decreases-write_shown
decreases-write_shown l = 8 * shown_size (shown_of l.shown.now)

abbrev pub invariant-write_each_part-loop-at : goal.invariant-write_each_part-loop-at
invariant-write_each_part-loop-at l = IsAppended l.initial.out l.out (flat_map data_tokens (parts_datas (parts_of l.keys (take l.at l.values))))
