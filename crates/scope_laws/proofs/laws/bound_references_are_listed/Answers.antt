use Rattle.std.proofs.Common.{sym}
use Rattle.scope_rules.specs.Site.{sites_of, found_in}
use Rattle.scope_laws.proofs.Counted.{listed_resolved}
use Rattle.scope_laws.proofs.laws.bound_references_are_listed.Goals as goal

pub returns : goal.returns
returns c = λ t. sym (listed_resolved (found_in (sites_of t)))
