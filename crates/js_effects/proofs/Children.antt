-- The nodes below a node, by their places, and what is told of each.
use Rattle.std.proofs.Common.{◌≡◌, ◌<◌, ◌≤◌, ◌-◌, ◌∙◌, ℕ, zero, suc, List, [], ◌∷◌, Option, Some, None, length, get_or, refl, sym, ap, arith}
use Rattle.js_syntax.specs.declared.node_kind.NodeKind.{NodeKind as Kind}
use Rattle.js_syntax.specs.Node.{Forest, nothing, node, absent, Note, Tree, row}
use Rattle.js_tree.specs.Weight.{size_of, tree_size}
use Rattle.js_effects.specs.Each.{of_each, last, child_of, width}

pub child_there : (ts : List (Option Tree)) (i : ℕ) (x : Option Tree) → i < length ts → x ≡ get_or ts i x → child_of (row ts) i ≡ x
child_there [] i x h is = absurd (omega arith)
child_there (None ∷ ts) zero x h is = sym is
child_there (Some t ∷ ts) zero x h is = sym is
child_there (None ∷ ts) (suc i) x h is = child_there ts i x (omega arith) is
child_there (Some t ∷ ts) (suc i) x h is = child_there ts i x (omega arith) is

pub child_past : (ts : List (Option Tree)) (i : ℕ) → length ts ≤ i → child_of (row ts) i ≡ None
child_past [] i h = refl
child_past (x ∷ ts) zero h = absurd (omega arith)
child_past (None ∷ ts) (suc i) h = child_past ts i (omega arith)
child_past (Some t ∷ ts) (suc i) h = child_past ts i (omega arith)

pub row_width : (ts : List (Option Tree)) → width (row ts) ≡ length ts
row_width [] = refl
row_width (None ∷ ts) = ap suc (row_width ts)
row_width (Some t ∷ ts) = ap suc (row_width ts)

-- a node below another is smaller
pub child_size : (a : Forest) (i : ℕ) (t : Tree) → child_of a i ≡ Some t → tree_size t ≤ size_of a
child_size nothing i t is = absurd (cc is)
child_size (absent r) zero t is = absurd (cc is)
child_size (absent r) (suc i) t is = child_size r i t is
child_size (node k n a r) zero t is = let same : record { kind = k; note = n; below = a } ≡ t = cc is in rw (← same) (omega arith)
child_size (node k n a r) (suc i) t is = omega (arith, child_size r i t is)

module _ {X : Type 0} (told : Kind → Note → (below : Forest) → List X → X) (missing : X) where
  abbrev pub told_of : Option Tree → X
  told_of None = missing
  told_of (Some t) = told t.kind t.note t.below (of_each told missing t.below)

  -- what is told at a place is told of the node there
  pub told_at : (a : Forest) (i : ℕ) → get_or (of_each told missing a) i missing ≡ told_of (child_of a i)
  told_at nothing i = refl
  told_at (absent r) zero = refl
  told_at (absent r) (suc i) = told_at r i
  told_at (node k n a r) zero = refl
  told_at (node k n a r) (suc i) = told_at r i

  -- and last, of the last
  last_from : (x : X) (a : Forest) → last x (of_each told missing a) ≡ get_or (x ∷ of_each told missing a) (width a) missing
  last_from x nothing = refl
  last_from x (absent r) = last_from missing r
  last_from x (node k n a r) = last_from (told k n a (of_each told missing a)) r

  up_to : (x : X) (xs : List X) (n : ℕ) → get_or (x ∷ xs) n missing ≡ get_or (x ∷ xs) (suc n - 1) missing
  up_to x xs n = let same : n ≡ suc n - 1 = omega arith in ap (λ i. get_or (x ∷ xs) i missing) same

  pub told_last : (a : Forest) → last missing (of_each told missing a) ≡ get_or (of_each told missing a) (width a - 1) missing
  told_last nothing = refl
  told_last (absent r) = last_from missing r ∙ up_to missing (of_each told missing r) (width r)
  told_last (node k n a r) = last_from (told k n a (of_each told missing a)) r ∙ up_to (told k n a (of_each told missing a)) (of_each told missing r) (width r)
