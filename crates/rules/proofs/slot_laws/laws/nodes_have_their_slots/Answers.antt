use Rattle.rules.proofs.Slots.Had.{slots_had}
use Rattle.rules.proofs.slot_laws.laws.nodes_have_their_slots.Goals as goal

pub returns : goal.returns
returns c = slots_had
