use Rattle.std.proofs.Common.{rules}
use Rattle.json_write.proofs.name.write_name.Goals as goal

pub returns-then-is_identifier_name : goal.returns-then-is_identifier_name
returns-then-is_identifier_name c = search rules
