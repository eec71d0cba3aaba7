use Rattle.scope_rules.specs.Context.{outermost}
use Rattle.scope_laws.proofs.Marking.{sites_marked, found_marked}
use Rattle.scope_laws.proofs.laws.marking_renumbers.Goals as goal

pub returns : goal.returns
returns c = record { sites = λ m t. sites_marked m (λ at. outermost) 0 0 t; found = found_marked }
