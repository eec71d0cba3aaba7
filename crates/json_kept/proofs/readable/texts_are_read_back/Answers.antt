use Rattle.json_kept.proofs.Texts.{readable_text}
use Rattle.json_kept.proofs.readable.texts_are_read_back.Goals as goal

pub returns : goal.returns
returns c = readable_text
