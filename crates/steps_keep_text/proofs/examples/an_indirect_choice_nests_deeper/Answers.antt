use Rattle.std.proofs.Common.{refl}
use Rattle.steps_keep_text.proofs.Computed.{part_put_behind_zero}
use Rattle.steps_keep_text.proofs.examples.an_indirect_choice_nests_deeper.Goals as goal

pub returns : goal.returns
returns c = record {
  edits = part_put_behind_zero;
  nodes = refl;
  nodes_left = refl;
  levels = refl;
  levels_left = refl;
  nests = refl;
  left_nests = refl;
}
