use Rattle.std.proofs.Common.{◌≡◌, ◌++◌, map}
use Rattle.scope_table.specs.Named.{named}
use Rattle.scope_match.specs.Keys.{named_key}
use Rattle.scope_match.proofs.lists.names_of.Given as goal

abbrev pub invariant-loop-name : goal.invariant-loop-name
invariant-loop-name l = map named_key l.names.items ++ map named l.name-iterator ≡ map named l.bindings.entries
