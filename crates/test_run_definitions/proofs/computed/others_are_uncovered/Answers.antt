use Rattle.test_run_definitions.proofs.Runs as runs
use Rattle.test_run_definitions.proofs.computed.others_are_uncovered.Goals as goal

pub returns : goal.returns
returns c = record {
  added = runs.added;
  compared = runs.compared;
  compared_with_null = runs.compared_with_null;
  put_in_order = runs.put_in_order;
  made_a_text = runs.made_a_text;
  asked_for = runs.asked_for;
  negated = runs.negated;
  constructed = runs.constructed;
  taken_as_a_key = runs.taken_as_a_key;
  switched_on = runs.switched_on;
}
