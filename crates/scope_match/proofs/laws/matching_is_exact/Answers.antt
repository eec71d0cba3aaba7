use Rattle.scope_rules.specs.Site.{found_in, sites_of}
use Rattle.scope_match.proofs.Exactness.{exact_if}
use Rattle.scope_match.proofs.laws.matching_is_exact.Goals as goal

pub returns : goal.returns
returns c = λ s t h left. exact_if s (found_in (sites_of t)) h left
