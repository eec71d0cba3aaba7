use Rattle.std.proofs.Common.{◌≡◌, map, take}
use Rattle.scope_match.proofs.lists.ids_of.Given as goal

abbrev pub invariant-loop-reference : goal.invariant-loop-reference
invariant-loop-reference l = l.ids.items ≡ map (λ r. r.0) (take l.reference-index l.references)
