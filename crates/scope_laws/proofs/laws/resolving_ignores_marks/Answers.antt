use Rattle.std.proofs.Common.{◌∙◌, ap}
use Rattle.scope_rules.specs.Site.{sites_of, found_in}
use Rattle.scope_rules.specs.Binding.{resolved}
use Rattle.scope_laws.proofs.Marking.{found_marked}
use Rattle.scope_laws.proofs.Bindings.{same_resolved}
use Rattle.scope_laws.proofs.laws.resolving_ignores_marks.Goals as goal

pub returns : goal.returns
returns c = λ m t. ap (λ f. resolved f.bindings f.references) (found_marked m t) ∙ same_resolved m.symbols m.reference (found_in (sites_of t)).bindings (found_in (sites_of t)).references
