use Rattle.js_values.proofs.Values.{told_by_form}
use Rattle.js_values.proofs.laws.what_forms_tell_is_so.Goals as goal

pub returns : goal.returns
returns c = told_by_form
