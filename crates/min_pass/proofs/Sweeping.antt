-- Rows of which some nodes go, and of which each node is swept in turn.
use Rattle.std.proofs.Common.{◌≡◌, ◌∙◌, ◌<◌, ◌≤◌, ◌+◌, ℕ, zero, suc, Bool, true, false, not, List, [], ◌∷◌, Option, Some, None, map, if◌then◌else◌, cond, length, take, drop, ◌++◌, get_or, set, drop-cons, refl, sym, ap, arith, add-one}
use Rattle.std.specs.Prelude.{filter}
use Rattle.std.proofs.lemmas.List.{take-append-le, take_all, drop-set-lt}
use Rattle.js_syntax.specs.declared.node_kind.NodeKind.{NodeKind as Kind}
use Rattle.js_syntax.specs.Node.{Forest, Tree, Note, node, absent, row}
use Rattle.js_tree.specs.Weight.{size_of}
use Rattle.js_tree.proofs.Sizes.{child_size}
use Rattle.min_pass.specs.declared.around.Row.{Row}
use Rattle.min_pass.specs.Around.{row_below}
use Rattle.min_pass.specs.Pass.{is_empty_in, swept}
use Rattle.min_pass.specs.Sweep.{goes_from, swept_child}

module _ (r : Row) where
  abbrev stays : Option Tree → Bool
  stays x = not (goes_from r x)

  one_swept : (goes : Bool) (t : Tree) (ts : List (Option Tree)) (left : Forest) → row (map (swept_child r) ts) ≡ left
      → row (map (swept_child r) (cond (not goes) (Some t ∷ ts) ts)) ≡ (if goes then left else node t.kind t.note (swept (row_below r t.kind) t.below) left)
  one_swept true t ts left e = e
  one_swept false t ts left e = ap (node t.kind t.note (swept (row_below r t.kind) t.below)) e

  pub all_swept : (ts : List (Option Tree)) → row (map (swept_child r) (filter stays ts)) ≡ swept r (row ts)
  all_swept [] = refl
  all_swept (None ∷ ts) = ap absent (all_swept ts)
  all_swept (Some t ∷ ts) = one_swept (is_empty_in r t.kind) t (filter stays ts) (swept r (row ts)) (all_swept ts)

  one_kept : (goes : Bool) (t : Tree) (ts us : List (Option Tree)) → size_of (row us) ≤ size_of (row ts) → size_of (row (cond (not goes) (Some t ∷ us) us)) ≤ size_of (row (Some t ∷ ts))
  one_kept true t ts us h = omega (arith, h)
  one_kept false t ts us h = omega (arith, h)

  -- what stays of a row is no larger
  pub kept_smaller : (ts : List (Option Tree)) → size_of (row (filter stays ts)) ≤ size_of (row ts)
  kept_smaller [] = omega arith
  kept_smaller (None ∷ ts) = kept_smaller ts
  kept_smaller (Some t ∷ ts) = one_kept (is_empty_in r t.kind) t ts (filter stays ts) (kept_smaller ts)

-- ---- one after another

-- the list once those before i are changed and the others will be
module _ (h : Option Tree → Option Tree) where
  abbrev pub changing : List (Option Tree) → ℕ → List (Option Tree)
  changing [] i = []
  changing (x ∷ xs) zero = h x ∷ map h xs
  changing (x ∷ xs) (suc i) = x ∷ changing xs i

  pub changing_first : (xs : List (Option Tree)) → changing xs 0 ≡ map h xs
  changing_first [] = refl
  changing_first (x ∷ xs) = refl

  changing_then : (xs : List (Option Tree)) (i : ℕ) (x : Option Tree) → i < length xs → x ≡ get_or xs i x → changing (set xs i (h x)) (suc i) ≡ changing xs i
  changing_then [] i x l is = absurd (omega (arith, l))
  changing_then (y ∷ ys) zero x l is = ap (λ z. h x ∷ z) (changing_first ys) ∙ ap (λ z. h z ∷ map h ys) is
  changing_then (y ∷ ys) (suc i) x l is = ap (λ z. y ∷ z) (changing_then ys i x (omega (arith, l)) is)

  pub changing_next : (xs : List (Option Tree)) (i : ℕ) (x : Option Tree) → i < length xs → x ≡ get_or xs i x → changing (set xs i (h x)) (i + 1) ≡ changing xs i
  changing_next xs i x l is = ap (λ k. changing (set xs i (h x)) k) (add-one i) ∙ changing_then xs i x l is

  pub changed : (xs : List (Option Tree)) (i : ℕ) → length xs ≤ i → changing xs i ≡ xs
  changed [] i l = refl
  changed (x ∷ xs) zero l = absurd (omega (arith, l))
  changed (x ∷ xs) (suc i) l = ap (λ z. x ∷ z) (changed xs i (omega (arith, l)))

-- the row behind an item
pub behind : (ts : List (Option Tree)) (i : ℕ) (y : Option Tree) → drop (i + 1) (set ts i y) ≡ drop (i + 1) ts
behind ts i y = drop-set-lt (i + 1) ts i y (omega arith)

pub front_of : (ts : List (Option Tree)) (i : ℕ) (x : Option Tree) → i < length ts → x ≡ get_or ts i x → drop i ts ≡ x ∷ drop (i + 1) ts
front_of ts i x h is = rw add-one (drop-cons ts i x h ∙ ap (λ y. y ∷ drop (suc i) ts) (sym is))

pub first_smaller : (x : Option Tree) (ts : List (Option Tree)) → child_size x ≤ size_of (row (x ∷ ts))
first_smaller None ts = omega arith
first_smaller (Some t) ts = omega arith

-- ---- a node with other children

pub same_tree : (y : Tree) (k : Kind) (n : Note) (t : Forest) → y.kind ≡ k → y.note ≡ n → y.below ≡ t → y ≡ record { kind = k; note = n; below = t }
same_tree y k n t a b c = ap (λ x. record { kind = x; note = y.note; below = y.below }) a ∙ ap (λ x. record { kind = k; note = x; below = y.below }) b ∙ ap (λ x. record { kind = k; note = n; below = x }) c

pub written : {A : Type 0} (n : ℕ) (ys zs : List A) → n ≡ length ys → take n (ys ++ zs) ≡ ys
written n ys zs e = take-append-le n ys zs (omega (arith, e)) ∙ take_all n ys (omega (arith, e))
