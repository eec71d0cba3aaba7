use Rattle.js_values.proofs.Told.{told_row}
use Rattle.js_values.proofs.laws.what_is_told_is_so.Goals as goal

pub returns : goal.returns
returns c = told_row
