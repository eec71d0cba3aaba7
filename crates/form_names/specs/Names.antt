-- What a map, asked by digest and name, or a set has at a name.
use Rattle.std.specs.Prelude.{ℕ, List, Bool, unwrap_or}
use Rattle.std.specs.Cmp.Lexicographic.{slice_cmp}
use Rattle.std.specs.Ordering.{nat_cmp, ordering_then}
use Rattle.std.specs.BTreeMap as tree
use Rattle.std.specs.BTreeMap.{BTreeMap}
use Rattle.std.specs.BTreeSet as sorted
use Rattle.std.specs.BTreeSet.{BTreeSet}
use Rattle.name_digest.specs.Digest.{digest_from}
use denote.Ref.{Bor}

-- where nothing is known of a name, `nothing` is
abbrev pub known_at : {X : Type 0} → (nothing : X) → BTreeMap (ℕ × Bor (List ℕ)) X → (name : List ℕ) → X
known_at nothing known name = unwrap_or (tree.get_by (λ k. ordering_then (nat_cmp (digest_from 0 name) k.0) (slice_cmp nat_cmp name k.1.now)) known) nothing

abbrev pub has_name : BTreeSet (Bor (List ℕ)) → (name : List ℕ) → Bool
has_name names name = sorted.contains_by (λ k. slice_cmp nat_cmp name k.now) names
