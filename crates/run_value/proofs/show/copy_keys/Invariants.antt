use Rattle.std.proofs.Common.{◌≡◌, ◌++◌, map, drop}
use Rattle.run_value.proofs.show.copy_keys.Given as goal

abbrev pub invariant-loop-key : goal.invariant-loop-key
invariant-loop-key l = map (λ k. k.value) l.copies.items ++ map (λ k. k.value) (drop l.key-index l.keys) ≡ map (λ k. k.value) l.keys
