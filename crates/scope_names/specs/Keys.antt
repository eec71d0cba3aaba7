-- Sets and maps of names with the numbers of their scopes, asked by digest, number and bytes.
use Rattle.std.specs.Prelude.{ℕ, List, Bool, Option}
use Rattle.std.specs.Cmp.Lexicographic.{slice_cmp}
use Rattle.std.specs.Ordering.{nat_cmp, ordering_then}
use Rattle.std.specs.BTreeMap as tree
use Rattle.std.specs.BTreeMap.{BTreeMap}
use Rattle.std.specs.BTreeSet as sorted
use Rattle.std.specs.BTreeSet.{BTreeSet}
use Rattle.name_digest.specs.Digest.{digest_from}
use denote.Ref.{Bor}

abbrev pub has : BTreeSet (ℕ × ℕ × Bor (List ℕ)) → ℕ → List ℕ → Bool
has places scope name = sorted.contains_by (λ k. ordering_then (ordering_then (nat_cmp (digest_from scope name) k.0) (nat_cmp scope k.1)) (slice_cmp nat_cmp name k.2.now)) places

abbrev pub at : BTreeMap (ℕ × ℕ × Bor (List ℕ)) ℕ → ℕ → List ℕ → Option ℕ
at numbers scope name = tree.get_by (λ k. ordering_then (ordering_then (nat_cmp (digest_from scope name) k.0) (nat_cmp scope k.1)) (slice_cmp nat_cmp name k.2.now)) numbers
