use Rattle.std.proofs.Common.{◌≡◌, map, take}
use Rattle.scope_rules.specs.Table.{number_or_none}
use Rattle.scope_match.proofs.marks.marks_of_scopes.Given as goal

abbrev pub invariant-loop-site : goal.invariant-loop-site
invariant-loop-site l = l.marks.items ≡ map (λ s. number_or_none s.id) (take l.site-index l.sites)
