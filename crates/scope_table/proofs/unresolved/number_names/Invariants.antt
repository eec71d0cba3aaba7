use Rattle.scope_table.specs.Unbound.{number_of}
use Rattle.scope_table.proofs.Naming.{AreNamed}
use Rattle.scope_table.proofs.unresolved.number_names.Given as goal

abbrev pub invariant-loop-name : goal.invariant-loop-name
invariant-loop-name l = AreNamed l.unbound l.name-index (number_of l.numbers) l.names.items
