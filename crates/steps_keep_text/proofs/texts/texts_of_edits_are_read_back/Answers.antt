use Rattle.steps_keep_text.proofs.ReadBack.{read_as_it_is, unsigned, read_with_signs, runs_with_signs}
use Rattle.steps_keep_text.proofs.texts.texts_of_edits_are_read_back.Goals as goal

pub returns : goal.returns
returns c = record {
  as_it_is = read_as_it_is;
  with_signs = read_with_signs;
  without_negative_numbers = unsigned;
  runs = runs_with_signs;
}
