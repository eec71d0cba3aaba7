-- Maps and sets of names, where one more name is put in.
use Rattle.std.proofs.Common.{◌≡◌, ◌∙◌, ℕ, List, Bool, true, false, Option, Some, unwrap_or, cond, if◌then◌else◌, refl, ap}
use Rattle.std.specs.Cmp.Lexicographic.{slice_cmp}
use Rattle.std.specs.Ordering.{nat_cmp, ordering_then}
use Rattle.std.specs.Str.{bytes_eq}
use Rattle.std.specs.BTreeMap as tree
use Rattle.std.specs.BTreeMap.{BTreeMap}
use Rattle.std.specs.BTreeSet as sorted
use Rattle.std.specs.BTreeSet.{BTreeSet}
use Rattle.std.proofs.lemmas.Map.Text.{is_eq-slice_cmp}
use Rattle.std.proofs.lemmas.Slice.Eq.{bytes_eq-Decides}
use Rattle.name_digest.specs.Digest.{digest_from}
use Rattle.name_digest.proofs.Apart.{texts_apart}
use denote.Ref.{Bor}
use Rattle.form_names.specs.Names.{known_at, has_name}

picked : {X : Type 0} (f : List ℕ → Option X) (nothing w : X) (more : X → X) (name q : List ℕ) (b : Bool) → bytes_eq name q ≡ b → w ≡ more (unwrap_or (f name) nothing)
    → unwrap_or (cond b (Some w) (f q)) nothing ≡ if b then more (unwrap_or (f q) nothing) else unwrap_or (f q) nothing
picked f nothing w more name q true same is = is ∙ ap (λ x. more (unwrap_or (f x) nothing)) ((bytes_eq-Decides name q).0 same)
picked f nothing w more name q false same is = refl

-- where the new value is made from what the map had there
pub known_after : {X : Type 0} (nothing w : X) (more : X → X) (key : ℕ × Bor (List ℕ)) (m n : BTreeMap (ℕ × Bor (List ℕ)) X) → key.0 ≡ digest_from 0 key.1.now
    → tree.Updates (λ x y. ordering_then (nat_cmp x.0 y.0) (slice_cmp nat_cmp x.1.now y.1.now)) m n key (Some w) → w ≡ more (known_at nothing m key.1.now)
    → (q : List ℕ) → known_at nothing n q ≡ if bytes_eq key.1.now q then more (known_at nothing m q) else known_at nothing m q
known_after nothing w more key m n digested updates is q =
    let there = λ (ds : List ℕ). tree.get_by (λ k. ordering_then (nat_cmp (digest_from 0 ds) k.0) (slice_cmp nat_cmp ds k.1.now)) m in
    ap (λ x. unwrap_or x nothing) (updates.0 (digest_from 0 q, record { ref_ptr = (0, 0); now = q }) ∙ ap (λ b. cond b (Some w) (there q)) (texts_apart key.0 0 key.1.now q digested))
    ∙ picked there nothing w more key.1.now q (bytes_eq key.1.now q) refl is

pub has_name_after : (name : Bor (List ℕ)) (m n : BTreeSet (Bor (List ℕ))) → sorted.Updates (λ x y. slice_cmp nat_cmp x.now y.now) m n name true
    → (q : List ℕ) → has_name n q ≡ if bytes_eq name.now q then true else has_name m q
has_name_after name m n updates q =
    updates.0 (record { ref_ptr = (0, 0); now = q }) ∙ ap (λ b. cond b true (has_name m q)) (is_eq-slice_cmp name.now q)
