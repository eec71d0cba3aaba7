use Rattle.std.proofs.Common.{◌≡◌, ◌≤◌, ◌+◌, ◌*◌, ◌++◌, drop, length, vec_len, vec_capacity}
use Rattle.min_expressions.specs.Objects.{all_pairs}
use Rattle.min_expressions.proofs.object.push_all.Given as goal

abbrev pub invariant-loop-place : goal.invariant-loop-place
invariant-loop-place l =
    (l.parts.items ++ all_pairs (drop l.place-index l.places) ≡ l.fn.parts.items ++ all_pairs l.fn.places)
    × (vec_len l.parts + 2 * length l.places ≤ vec_capacity l.parts + 2 * l.place-index)
