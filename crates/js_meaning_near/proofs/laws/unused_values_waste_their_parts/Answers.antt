use Rattle.js_meaning_near.proofs.Unused.{array_wasted, comparison_wasted}
use Rattle.js_meaning_near.proofs.laws.unused_values_waste_their_parts.Goals as goal

pub returns-clause-array : goal.returns-clause-array
returns-clause-array c = λ st n m i es ps x. array_wasted st n m i es ps x

pub returns-clause-comparison : goal.returns-clause-comparison
returns-clause-comparison c = λ st k a v n m i j. comparison_wasted st k a v n m i j
