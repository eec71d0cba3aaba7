use Rattle.std.proofs.Common.{◌∙◌}
use Rattle.scope_table.proofs.scoping.table.Goals as goal

pub scoping_with-requires : goal.scoping_with-requires
scoping_with-requires c = record {
  names = c.in_ok-names.ensures.declared ∙ c.bindings.ensures.bindings;
  few_bindings = c.requires.few_bindings;
  few_references = c.requires.few_references;
}
