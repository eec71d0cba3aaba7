-- Sets and maps of the names of scopes, where one more is put in.
use Rattle.std.proofs.Common.{◌≡◌, ◌∙◌, ◌&&◌, ◌||◌, ℕ, List, Bool, true, false, Some, cond, if◌then◌else◌, refl, ap}
use Rattle.std.specs.Bool.{nat_eq}
use Rattle.std.specs.Cmp.Lexicographic.{slice_cmp}
use Rattle.std.specs.Ordering.{nat_cmp, ordering_then}
use Rattle.std.specs.Str.{bytes_eq}
use Rattle.std.specs.BTreeMap as tree
use Rattle.std.specs.BTreeMap.{BTreeMap}
use Rattle.std.specs.BTreeSet as sorted
use Rattle.std.specs.BTreeSet.{BTreeSet}
use Rattle.name_digest.specs.Digest.{digest_from}
use Rattle.name_digest.proofs.Apart.{keys_apart}
use Rattle.scope_names.specs.Keys.{has, at}
use denote.Ref.{Bor}

true_or : (a b : Bool) → cond a true b ≡ a || b
true_or true b = refl
true_or false b = refl

pub has_after : (key : ℕ × ℕ × Bor (List ℕ)) (m n : BTreeSet (ℕ × ℕ × Bor (List ℕ))) → key.0 ≡ digest_from key.1 key.2.now
    → sorted.Updates (λ x y. ordering_then (ordering_then (nat_cmp x.0 y.0) (nat_cmp x.1 y.1)) (slice_cmp nat_cmp x.2.now y.2.now)) m n key true
    → (s : ℕ) (q : List ℕ) → has n s q ≡ (nat_eq key.1 s && bytes_eq key.2.now q) || has m s q
has_after key m n is updates s q =
    updates.0 (digest_from s q, s, record { ref_ptr = (0, 0); now = q }) ∙ ap (λ b. cond b true (has m s q)) (keys_apart key.0 key.1 s key.2.now q is) ∙ true_or (nat_eq key.1 s && bytes_eq key.2.now q) (has m s q)

pub at_after : (key : ℕ × ℕ × Bor (List ℕ)) (w : ℕ) (m n : BTreeMap (ℕ × ℕ × Bor (List ℕ)) ℕ) → key.0 ≡ digest_from key.1 key.2.now
    → tree.Updates (λ x y. ordering_then (ordering_then (nat_cmp x.0 y.0) (nat_cmp x.1 y.1)) (slice_cmp nat_cmp x.2.now y.2.now)) m n key (Some w)
    → (s : ℕ) (q : List ℕ) → at n s q ≡ if nat_eq key.1 s && bytes_eq key.2.now q then Some w else at m s q
at_after key w m n is updates s q =
    updates.0 (digest_from s q, s, record { ref_ptr = (0, 0); now = q }) ∙ ap (λ b. cond b (Some w) (at m s q)) (keys_apart key.0 key.1 s key.2.now q is)
