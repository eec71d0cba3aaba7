use Rattle.test_headline.proofs.Left.{negative_stays, written_left}
use Rattle.test_headline.proofs.rows.what_is_written.Goals as goal

pub returns : goal.returns
returns c = record { edits = negative_stays; written = written_left }
