use Rattle.std.proofs.Common.{◌≡◌, map, take}
use Rattle.scope_rules.specs.Table.{reference_at, unbound_name}
use Rattle.scope_table.specs.Unbound.{name_told}
use Rattle.scope_table.proofs.reference.references_of.Given as goal

abbrev pub invariant-loop-site : goal.invariant-loop-site
invariant-loop-site l = record {
  references : l.references.items ≡ map (reference_at l.names) (take l.site-index l.sites);
  unbound : map name_told l.unbound.items ≡ map (unbound_name l.names) (take l.site-index l.sites);
}
