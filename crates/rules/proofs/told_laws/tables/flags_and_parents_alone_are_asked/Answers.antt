use Rattle.std.proofs.Common.{refl}
use Rattle.scope_table.specs.Editing.{pruned}
use Rattle.rules.proofs.Told.Alone.{flags_alone, names_alone}
use Rattle.rules.proofs.Told.Nested.{parents_alone}
use Rattle.rules.proofs.told_laws.tables.flags_and_parents_alone_are_asked.Goals as goal

pub returns : goal.returns
returns c = record {
  flags = flags_alone;
  names = names_alone;
  parents = parents_alone;
  pruned = λ t s away h. flags_alone t s (pruned away s) (λ n. refl) h;
  pruned_names = λ t s away h. names_alone t s (pruned away s) (λ n. refl) h;
  pruned_nest = λ t s away h. parents_alone t s (pruned away s) (λ n. refl) h;
}
