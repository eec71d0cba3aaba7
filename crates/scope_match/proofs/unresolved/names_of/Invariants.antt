use Rattle.std.proofs.Common.{◌≡◌, map, take}
use Rattle.scope_match.proofs.unresolved.names_of.Given as goal

abbrev pub invariant-loop-name : goal.invariant-loop-name
invariant-loop-name l = map (λ x. x.now) l.texts.items ≡ map (λ u. u.name) (take l.name-index l.names)
