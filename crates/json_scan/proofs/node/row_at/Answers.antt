use Rattle.std.proofs.Common.{refl}
use Rattle.json_text.specs.Reading.{row_here}
use Rattle.json_scan.proofs.node.row_at.Goals as goal

pub returns-in-None : goal.returns-in-None
unfolding row_here
returns-in-None c = rw (← c.in-None.ensures) refl
