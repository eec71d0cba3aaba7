use Rattle.std.proofs.Common.{◌≡◌, map, take}
use Rattle.scope_match.specs.Matches.{marks_at}
use Rattle.scope_match.proofs.lists.marks_of.Given as goal

abbrev pub invariant-loop-reference : goal.invariant-loop-reference
invariant-loop-reference l = l.ids.items ≡ marks_at l.marks (map (λ r. r.0) (take l.reference-index l.references))
