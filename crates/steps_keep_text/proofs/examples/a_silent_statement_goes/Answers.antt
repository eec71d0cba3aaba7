use Rattle.std.proofs.Common.{refl}
use Rattle.steps_keep_text.proofs.Computed.{statement_goes}
use Rattle.steps_keep_text.proofs.examples.a_silent_statement_goes.Goals as goal

pub returns : goal.returns
returns c = record {
  edits = statement_goes;
  nodes = refl;
  nodes_then = refl;
  nodes_left = refl;
  levels = refl;
  levels_left = refl;
  nests = refl;
  nests_then = refl;
  left_nests = refl;
}
