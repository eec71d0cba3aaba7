use Rattle.std.proofs.Common.{◌≡◌, ◌++◌, map, drop}
use Rattle.scope_match.specs.Matches.{uses_in}
use Rattle.scope_match.specs.Keys.{use_key}
use Rattle.scope_match.proofs.unresolved.uses_of.Given as goal

abbrev pub invariant-loop-name : goal.invariant-loop-name
invariant-loop-name l = map use_key l.uses.items ++ uses_in (drop l.name-index l.names) ≡ uses_in l.names
