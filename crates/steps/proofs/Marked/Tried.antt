-- A small program whose only reference left.
use Rattle.std.proofs.Common.{◌≡◌, arith}
use Rattle.scope_counts.specs.Scopes.{ExactButMarks, unmarked}
use Rattle.steps.specs.Marked.Samples.{table_of, reads_a, declares_a}

-- its id stands in the list of the name
pub one_mark_too_few : ExactButMarks (table_of reads_a) unmarked declares_a → ⊥
one_mark_too_few x = let zero_is_one : 0 ≡ 1 = x.lists 0 0 in Prim.omega (arith, zero_is_one)
