use Rattle.headline_text.proofs.Promise.{text_headline}
use Rattle.headline_text.proofs.texts.texts_of_edits_keep_runs.Goals as goal

pub returns : goal.returns
returns c = text_headline
