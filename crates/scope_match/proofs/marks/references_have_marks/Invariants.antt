use Rattle.std.proofs.Common.{◌↔◌, Some, drop}
use Rattle.scope_rules.specs.Table.{number_or_none}
use Rattle.scope_match.proofs.Have.{Have}
use Rattle.scope_match.proofs.marks.references_have_marks.Given as goal

abbrev pub invariant-loop-site : goal.invariant-loop-site
invariant-loop-site l =
    Have (λ s. s.id) (λ s. Some (number_or_none s.id)) (drop l.site-index l.sites) ↔ Have (λ s. s.id) (λ s. Some (number_or_none s.id)) l.sites
