use Rattle.std.proofs.Common.{rules}
use Rattle.json_read.proofs.program.program.Goals as goal

pub returns : goal.returns
returns c = search rules
