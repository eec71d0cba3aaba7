use Rattle.std.proofs.Common.{◌≡◌, ◌++◌, map, length}
use Rattle.kept_names.specs.Kept.{declarator_of}
use Rattle.kept_names.proofs.keep.KeepVar.keep_all.Given as goal

abbrev pub invariant-loop-rest : goal.invariant-loop-rest
invariant-loop-rest l = l.fn.self.declarators.items ++ map (λ n. declarator_of n.now) l.names ≡ l.self.declarators.items ++ map (λ n. declarator_of n.now) l.rest

abbrev pub decreases-loop-rest : goal.decreases-loop-rest
decreases-loop-rest l = length l.rest
