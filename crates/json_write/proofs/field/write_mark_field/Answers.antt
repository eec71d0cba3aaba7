use Rattle.std.proofs.Common.{rules}
use Rattle.json_write.proofs.field.write_mark_field.Goals as goal

pub returns-then-has_mark : goal.returns-then-has_mark
returns-then-has_mark c = search rules
