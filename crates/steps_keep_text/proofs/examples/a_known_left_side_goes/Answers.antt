use Rattle.std.proofs.Common.{refl}
use Rattle.steps_keep_text.proofs.Computed.{right_side_counted}
use Rattle.steps_keep_text.proofs.examples.a_known_left_side_goes.Goals as goal

pub returns : goal.returns
returns c = record {
  edits = right_side_counted;
  nodes = refl;
  nodes_left = refl;
  levels = refl;
  levels_left = refl;
  nests = refl;
  left_nests = refl;
}
