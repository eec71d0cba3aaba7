use Rattle.js_meaning_near.proofs.Instances.{silent_empties}
use Rattle.js_meaning_near.proofs.examples.a_silent_statement_empties.Goals as goal

pub returns : goal.returns
returns c = silent_empties
