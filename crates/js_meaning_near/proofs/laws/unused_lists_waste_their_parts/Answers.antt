use Rattle.js_meaning_near.proofs.Spared.{object_wasted, sequence_wasted}
use Rattle.js_meaning_near.proofs.laws.unused_lists_waste_their_parts.Goals as goal

pub returns-clause-object : goal.returns-clause-object
returns-clause-object c = λ st n i j es ps x. object_wasted st n i j es ps x

pub returns-clause-sequence : goal.returns-clause-sequence
returns-clause-sequence c = λ st n i j es ps y x. sequence_wasted st n i j es ps y x
