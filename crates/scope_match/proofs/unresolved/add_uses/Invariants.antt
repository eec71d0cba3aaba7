use Rattle.std.proofs.Common.{◌≡◌, ◌++◌, map, take}
use Rattle.scope_match.specs.Matches.{use_of}
use Rattle.scope_match.specs.Keys.{use_key}
use Rattle.scope_match.proofs.unresolved.add_uses.Given as goal

abbrev pub invariant-loop-reference : goal.invariant-loop-reference
invariant-loop-reference l = map use_key l.uses.items ≡ map use_key l.fn.uses.items ++ map (use_of l.name.name) (map (λ r. r.0) (take l.reference-index l.reference-items))
