use Rattle.std.proofs.Common.{length}
use Rattle.scope_table.specs.Reading.{binding_of}
use Rattle.scope_table.proofs.Read.{IsSought}
use Rattle.scope_table.proofs.scoping.Scoping.find_binding.Given as goal

abbrev pub invariant-loop-i : goal.invariant-loop-i
invariant-loop-i l = IsSought l.self l.name l._i (length l.self.scopes) l.next (binding_of l.self l.fn.scope.0 l.name)
