use Rattle.min_traverse.proofs.Slots.{at_keys}
use Rattle.min_traverse.proofs.laws.keys_have_their_slot.Goals as goal

pub returns : goal.returns
returns c = at_keys
