use Rattle.steps.proofs.Allowed.TriedExpressions.{acting_elements_stay, acting_element_stays, hole_goes, elements_stay, spread_and_part_stay, hole_goes_from_spread, silent_spread_goes, acting_parts_of_sequence_stay, array_part_becomes}
use Rattle.steps.proofs.allowed_laws.rows.unused_lists_become_parts.Goals as goal

pub returns : goal.returns
returns c = record { several = acting_elements_stay; one_part = acting_element_stays; beside_a_hole = hole_goes; all_parts = elements_stay; beside_a_spread = spread_and_part_stay; hole_and_spread = hole_goes_from_spread; silent_spread = silent_spread_goes; sequence = acting_parts_of_sequence_stay; part = array_part_becomes }
