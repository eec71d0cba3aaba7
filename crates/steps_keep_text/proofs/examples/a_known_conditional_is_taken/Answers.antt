use Rattle.std.proofs.Common.{refl}
use Rattle.steps_keep_text.proofs.Computed.{conditional_taken}
use Rattle.steps_keep_text.proofs.examples.a_known_conditional_is_taken.Goals as goal

pub returns : goal.returns
returns c = record {
  edits = conditional_taken;
  nodes = refl;
  nodes_left = refl;
  levels = refl;
  levels_left = refl;
  nests = refl;
  left_nests = refl;
}
