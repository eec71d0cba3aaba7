use Rattle.js_rebuilt.proofs.Tried.{call_comes_out, name_comes}
use Rattle.js_rebuilt.proofs.rows.nothing_else_is_rebuilt.Goals as goal

pub returns : goal.returns
returns c = record { function = call_comes_out; name = name_comes }
