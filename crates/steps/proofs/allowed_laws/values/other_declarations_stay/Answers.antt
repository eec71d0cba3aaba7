use Rattle.steps.proofs.Allowed.TriedValues.{read_stays, exported_stays, head_stays, shared_stays, with_stays, function_stays, held_stays, literal_stays, bare_stays, two_stay}
use Rattle.steps.proofs.allowed_laws.values.other_declarations_stay.Goals as goal

pub returns : goal.returns
returns c = record {
  read = read_stays;
  exported = exported_stays;
  head = head_stays;
  shared = shared_stays;
  in_with = with_stays;
  function = function_stays;
  held = held_stays;
  literal = literal_stays;
  bare = bare_stays;
  two = two_stay;
}
