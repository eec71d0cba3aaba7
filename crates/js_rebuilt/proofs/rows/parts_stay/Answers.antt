use Rattle.js_rebuilt.proofs.Tried.{array_rebuilt, comparison_rebuilt, conditional_rebuilt, negation_rebuilt, alternate_rebuilt, sequence_rebuilt, literal_rebuilt}
use Rattle.js_rebuilt.proofs.rows.parts_stay.Goals as goal

pub returns : goal.returns
returns c = record { array = array_rebuilt; comparison = comparison_rebuilt; conditional = conditional_rebuilt; negation = negation_rebuilt; alternate = alternate_rebuilt; sequence = sequence_rebuilt; literal = literal_rebuilt }
