use Rattle.std.proofs.Common.{◌≡◌, drop}
use Rattle.js_syntax.specs.Node.{row}
use Rattle.js_syntax.specs.Hint.{has, is_function_body}
use Rattle.json_entries.proofs.flags.has_function_body.Given as goal

abbrev pub invariant-loop-child : goal.invariant-loop-child
invariant-loop-child l = has is_function_body (row l.children) ≡ has is_function_body (row (drop l.child-index l.children))
