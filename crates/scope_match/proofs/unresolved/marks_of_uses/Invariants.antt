use Rattle.std.proofs.Common.{◌≡◌, map, take}
use Rattle.scope_match.specs.Matches.{use_by}
use Rattle.scope_match.specs.Keys.{use_key}
use Rattle.scope_match.proofs.unresolved.marks_of_uses.Given as goal

abbrev pub invariant-loop-used : goal.invariant-loop-used
invariant-loop-used l = map use_key l.marked.items ≡ map (use_by l.marks) (map use_key (take l.used-index l.uses))
