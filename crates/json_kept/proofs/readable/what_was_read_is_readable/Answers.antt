use Rattle.json_kept.proofs.Exact.{read_readable}
use Rattle.json_kept.proofs.readable.what_was_read_is_readable.Goals as goal

pub returns : goal.returns
returns c = read_readable
