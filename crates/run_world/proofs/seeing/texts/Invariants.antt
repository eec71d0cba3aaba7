use Rattle.std.proofs.Common.{◌≡◌, ◌++◌, map, drop}
use Rattle.run_value.specs.Trace.{texts_of}
use Rattle.run_world.proofs.seeing.texts.Given as goal

abbrev pub invariant-loop-name : goal.invariant-loop-name
invariant-loop-name l = texts_of l.all.items ++ map (λ s. s.now) (drop l.name-index l.names) ≡ map (λ s. s.now) l.names
