use Rattle.steps.proofs.Owed.Refused.{evaluated_stays, global_stays, sloppy_stays}
use Rattle.test_headline.proofs.Refused.{function_beside_eval, declarator_beside_eval, variable_of_script, declarator_of_script}
use Rattle.test_headline.proofs.rows.what_others_may_use_stays.Goals as goal

pub returns : goal.returns
returns c = record {
  evaluated = λ h. evaluated_stays h.edits;
  function = λ h. function_beside_eval h.edits;
  declarator = λ h. declarator_beside_eval h.edits;
  global = λ h. global_stays h.edits;
  sloppy = λ h. sloppy_stays h.edits;
  variable = λ h. variable_of_script h.edits;
  shared = λ h. declarator_of_script h.edits;
}
