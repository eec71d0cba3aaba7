-- A row of which one node moved, and a node whose row did.
use Rattle.std.proofs.Common.{◌≡◌, ◌∙◌, ◌<◌, ◌+◌, ℕ, zero, suc, Bool, true, false, List, [], ◌∷◌, ◌++◌, Option, Some, None, length, length-drop, take, drop, drop-cons, set, get_or, add-one, refl, sym, ap, ap₂, subst, arith}
use Rattle.std.specs.Prelude.{nat_lt}
use Rattle.std.proofs.lemmas.List.{take_more_set, take-append-drop, take-append-le, take_all, drop-set-lt}
use Rattle.js_syntax.specs.declared.node_kind.NodeKind.{NodeKind as Kind}
use Rattle.js_syntax.specs.Node.{Forest, Tree, Note, nothing, node, absent, row, joined, forest_of}
use Rattle.js_tree.proofs.Rows.{joined_assoc, row_push}
use Rattle.scope_counts.specs.Counts.{ids}
use Rattle.scope_counts.specs.Edits.{Around}
use Rattle.min_context.specs.Above.{above_of}
use Rattle.min_context.specs.Edited.{Markable}
use Rattle.min_context.specs.Place.{Place, Spot, spot, next_of, below, goes_on, place_of, place_at, inside, told_of}
use Rattle.min_context.specs.declared.ancestor.Above.{Above}
use Rattle.min_context.specs.declared.ancestor.Ancestor.{Ancestor}
use Rattle.min_context.specs.declared.ancestor.Ancestor.TheVariants.{Field as field}
use Rattle.min_context.specs.Seen.{Seen}
use Rattle.min_options.specs.declared.options.CompressOptions.{CompressOptions}
use Rattle.min_traverse.specs.Moves.{Moves, NodeMovesAt, NodeMoves, RowMoves, IsHere, IsAt, IsFirst, before}
use Rattle.min_traverse.proofs.Moving.{after, spot_after, ids_joined, elsewhere, at_some, stay, and_then, moves_under, moves_behind}

row_append : (xs ys : List (Option Tree)) → row (xs ++ ys) ≡ joined (row xs) (row ys)
row_append [] ys = refl
row_append (None ∷ xs) ys = ap absent (row_append xs ys)
row_append (Some t ∷ xs) ys = ap (node t.kind t.note t.below) (row_append xs ys)

-- the row behind an item, from what stands at its place
pub front_of : (ts : List (Option Tree)) (i : ℕ) (d x : Option Tree) → i < length ts → get_or ts i d ≡ x → drop i ts ≡ x ∷ drop (i + 1) ts
front_of ts i d x h is = rw add-one (drop-cons ts i d h ∙ ap (λ y. y ∷ drop (suc i) ts) is)

pub row_at : (ts : List (Option Tree)) (i : ℕ) (t : Tree) → drop i ts ≡ Some t ∷ drop (i + 1) ts → row ts ≡ joined (row (take i ts)) (before t (row (drop (i + 1) ts)))
row_at ts i t front = ap row (sym (take-append-drop i ts)) ∙ row_append (take i ts) (drop i ts) ∙ ap (λ xs. joined (row (take i ts)) (row xs)) front

pub left : (ts : List (Option Tree)) (i : ℕ) (y : Option Tree) → drop (i + 1) (set ts i y) ≡ drop (i + 1) ts
left ts i y = drop-set-lt (i + 1) ts i y (omega arith)

pub row_set : (ts : List (Option Tree)) (i : ℕ) (t : Tree) → i < length ts → row (set ts i (Some t)) ≡ joined (row (take i ts)) (before t (row (drop (i + 1) ts)))
row_set ts i t h =
    ap row (sym (take-append-drop (i + 1) (set ts i (Some t))))
    ∙ row_append (take (i + 1) (set ts i (Some t))) (drop (i + 1) (set ts i (Some t)))
    ∙ ap₂ (λ xs ys. joined (row xs) (row ys)) (take_more_set ts i (Some t) h) (left ts i (Some t))
    ∙ ap (λ f. joined f (row (drop (i + 1) ts))) (row_push (take i ts) (Some t))
    ∙ joined_assoc (row (take i ts)) (forest_of t) (row (drop (i + 1) ts))

pub set_same : (ts : List (Option Tree)) (i : ℕ) (d x : Option Tree) → get_or ts i d ≡ x → i < length ts → set ts i x ≡ ts
set_same [] i d x is h = refl
set_same (t ∷ ts) zero d x is h = ap (λ y. y ∷ ts) (sym is)
set_same (t ∷ ts) (suc i) d x is h = ap (λ ys. t ∷ ys) (set_same ts i d x is (omega arith))

-- whether there are more behind an item
pub more_behind : (ts : List (Option Tree)) (i : ℕ) → goes_on (row (drop (i + 1) ts)) ≡ nat_lt (i + 1) (length ts)
more_behind ts i = at (drop (i + 1) ts) refl
  where
    at : (us : List (Option Tree)) → drop (i + 1) ts ≡ us → goes_on (row us) ≡ nat_lt (i + 1) (length ts)
    at [] e = Prim.grind (arith, ap length e, length-drop (i + 1) ts)
    at (None ∷ us) e = Prim.grind (arith, ap length e, length-drop (i + 1) ts)
    at (Some t ∷ us) e = Prim.grind (arith, ap length e, length-drop (i + 1) ts)

-- ---- the spot behind the first items

abbrev pub is_there : Option Tree → Bool
is_there None = false
is_there (Some t) = true

spot_push : (s : Spot) (ts : List (Option Tree)) (t : Option Tree) → spot s (after (row (ts ++ t ∷ []))) ≡ next_of (spot s (after (row ts))) (is_there t)
spot_push s ts None = ap (λ x. spot s (after x)) (row_push ts None) ∙ spot_after s (row ts) (absent nothing)
spot_push s ts (Some t) = ap (λ x. spot s (after x)) (row_push ts (Some t)) ∙ spot_after s (row ts) (forest_of t)

abbrev pub spot_at : Spot → List (Option Tree) → ℕ → Spot
spot_at s ts i = spot s (after (row (take i ts)))

pub spot_next : (s : Spot) (ts : List (Option Tree)) (i : ℕ) (t : Option Tree) → i < length ts → spot_at s (set ts i t) (i + 1) ≡ next_of (spot_at s ts i) (is_there t)
spot_next s ts i t h = ap (λ xs. spot s (after (row xs))) (take_more_set ts i t h) ∙ spot_push s (take i ts) t

-- the spot of a child below a node
abbrev pub child_spot : Place → Above → (at : ℕ) → (previous : Bool) → Spot
child_spot o a i previous = record { outer = o; above = Some a; at = i; previous = previous }

one_behind : (o : Place) (a : Above) (i : ℕ) (previous : Bool) → child_spot o a (suc i) previous ≡ child_spot o a (i + 1) previous
one_behind o a i previous = rw add-one refl

pub spot_then : (p : Spot) (ts : List (Option Tree)) (i : ℕ) (o : Place) (a : Above) (previous : Bool) (t : Option Tree) → i < length ts → spot_at p ts i ≡ child_spot o a i previous → spot_at p (set ts i t) (i + 1) ≡ child_spot o a (i + 1) (is_there t)
spot_then p ts i o a previous t h e = spot_next p ts i t h ∙ ap (λ s. next_of s (is_there t)) e ∙ one_behind o a i (is_there t)

pub first_then : (p : Spot) (ts : List (Option Tree)) (i : ℕ) (o : Place) (a : Above) (previous : Bool) (x y : Option Tree) → i < length ts → get_or ts i x ≡ x → x ≡ y → spot_at p ts i ≡ child_spot o a i previous → spot_at p ts (i + 1) ≡ child_spot o a (i + 1) (is_there y)
first_then p ts i o a previous x y h is e at = ap (λ us. spot_at p us (i + 1)) (sym (set_same ts i x x is h)) ∙ spot_then p ts i o a previous x h at ∙ ap (λ z. child_spot o a (i + 1) (is_there z)) e

-- The walk is back where it was.
pub back : (k k0 k1 k2 : Seen) (a : Above) (i : ℕ) (previous more : Bool) (scope hoist block : ℕ) → k0 ≡ record k { place = inside k.place a i previous more } → k1.place ≡ k0.place
    → ((p : Place) (x : Ancestor) → k1.place.ancestors ≡ p.ancestors ++ (x ∷ []) → p.scope ≡ scope → p.hoist_scope ≡ hoist → p.block_scope ≡ block → k2 ≡ record k1 { place = p })
    → scope ≡ k.place.scope → hoist ≡ k.place.hoist_scope → block ≡ k.place.block_scope → k2 ≡ record k1 { place = k.place }
back k k0 k1 k2 a i previous more scope hoist block en same le s h b = le k.place (field (told_of a.parent i previous more) i) (ap {A = Place} (λ q. q.ancestors) same ∙ ap {A = Seen} (λ c. c.place.ancestors) en) (sym s) (sym h) (sym b)

-- ---- marks have room

pub markable_below : (k : Seen) (x : Tree) (t : Forest) → x.below ≡ t → Markable k (forest_of x) → Markable k t
markable_below k x t e h = λ r g. h r (omega (arith, g, ap (ids r) e))

pub markable_later : {S : Type 0} {E : CompressOptions → Forest → Forest → Type 0} {H : S → Seen → Forest → Type 0} {At : Around → Type 0} {s s' : S} {k k' : Seen} {t u : Forest} → Moves S E H At s k t s' k' u → Markable k t → Markable k' u
markable_later m h = λ r g. omega (arith, h r (omega (arith, g, m.fewer r)), m.room)

pub markable_at : (k : Seen) (ts : List (Option Tree)) (i : ℕ) (t : Tree) → drop i ts ≡ Some t ∷ drop (i + 1) ts → Markable k (row ts) → Markable k (forest_of t)
markable_at k ts i t front h = λ r g. h r (omega (arith, g, ap (ids r) (row_at ts i t front), ids_joined r (row (take i ts)) (before t (row (drop (i + 1) ts)))))

pub row_markable : {S : Type 0} {E : CompressOptions → Forest → Forest → Type 0} {H : S → Seen → Forest → Type 0} {p : Spot} {s s' : S} {k k' : Seen} {t u : Forest} → RowMoves S E H p s k t s' k' u → Markable k t → Markable k' u
row_markable m h = markable_later m.moves h

module _ {S : Type 0} {E : CompressOptions → Forest → Forest → Type 0} {H : S → Seen → Forest → Type 0} where
  pub row_stays : (p : Spot) (s : S) (k : Seen) (t : Forest) → RowMoves S E H p s k t s k t
  row_stays p s k t = record { moves = stay (IsAt p) s k t; same_place = refl }

  pub node_stays : (s : S) (k : Seen) (x : Tree) → NodeMoves S E H s k x s k x
  node_stays s k x = record { moves = λ r. stay (λ a. IsHere k a r) s k (before x r); same_place = refl }

  pub node_markable : {s s' : S} {k k' : Seen} {x y : Tree} → NodeMoves S E H s k x s' k' y → Markable k (forest_of x) → Markable k' (forest_of y)
  node_markable m h = markable_later (m.moves nothing) h

  -- one hook after another
  pub node_then : {s s1 s2 : S} {k k1 k2 : Seen} {x y z : Tree} → NodeMoves S E H s k x s1 k1 y → NodeMoves S E H s1 k1 y s2 k2 z → NodeMoves S E H s k x s2 k2 z
  node_then {s1 = s1} {s2 = s2} {k1 = k1} {k2 = k2} {y = y} {z = z} m w = record {
    moves = λ r. and_then (m.moves r) (subst (λ p. Moves S E H (λ a. place_at a (goes_on r) ≡ p) s1 k1 (before y r) s2 k2 (before z r)) m.same_place (w.moves r));
    same_place = w.same_place ∙ m.same_place;
  }

  -- one node of a row
  pub next : {p q : Spot} {s s1 s2 : S} {k k1 k2 : Seen} {t : Forest} (ts : List (Option Tree)) (i : ℕ) (x y : Tree) (more : Bool) → i < length ts → drop i ts ≡ Some x ∷ drop (i + 1) ts → spot_at p ts i ≡ q → goes_on (row (drop (i + 1) ts)) ≡ more
      → RowMoves S E H p s k t s1 k1 (row ts) → NodeMovesAt S E H (IsFirst q more) s1 k1 x s2 k2 y → RowMoves S E H p s k t s2 k2 (row (set ts i (Some y)))
  next {p = p} {s1 = s1} {s2 = s2} {k1 = k1} {k2 = k2} ts i x y more h front e on m w =
      let one = moves_behind (row (take i ts)) e (at_some (λ a at. (at, on)) (w.moves (row (drop (i + 1) ts)))) in
      let here : Moves S E H (IsAt p) s1 k1 (row ts) s2 k2 (row (set ts i (Some y))) = rw (row_at ts i x front, row_set ts i y h) one in
      record { moves = and_then m.moves here; same_place = w.same_place ∙ m.same_place }

  -- a child, from what the walk does at its place
  pub child : {p : Spot} {more : Bool} {s s1 : S} {k k0 k1 k2 : Seen} {x y : Tree} → k0 ≡ record k { place = place_of p more } → NodeMoves S E H s k0 x s1 k1 y → k2 ≡ record k1 { place = k.place } → NodeMovesAt S E H (IsFirst p more) s k x s1 k2 y
  child {p = p} {more = more} {s = s} {s1 = s1} {k = k} {k1 = k1} {x = x} {y = y} en m le =
      let m0 : NodeMoves S E H s (record k { place = place_of p more }) x s1 k1 y = subst (λ c. NodeMoves S E H s c x s1 k1 y) en m in
      record {
        moves = λ r. subst (λ c. Moves S E H (λ a. IsFirst p more a r) s k (before x r) s1 c (before y r)) (sym le) (elsewhere {k = k} {k' = k1} (place_of p more) k.place (at_some (λ a e. ap₂ place_of e.0 e.1) (m0.moves r)));
        same_place = ap (λ c. c.place) le;
      }

  -- a node, from what lies below it and from its own hooks
  pub whole : {s s1 s2 s3 : S} {k k1 k2 k3 : Seen} {x y z : Tree} {t u : Forest}
      → NodeMoves S E H s k x s1 k1 x
      → x.below ≡ t → RowMoves S E H (below k1.place (above_of x.kind x.note)) s1 k1 t s2 k2 u → y ≡ record { kind = x.kind; note = x.note; below = u }
      → NodeMoves S E H s2 k2 y s3 k3 z
      → NodeMoves S E H s k x s3 k3 z
  whole {s1 = s1} {s2 = s2} {k1 = k1} {k2 = k2} {x = x} {y = y} {t = t} {u = u} e ex m ey w =
      let inner : RowMoves S E H (below k1.place (above_of x.kind x.note)) s1 k1 x.below s2 k2 u = subst (λ z. RowMoves S E H (below k1.place (above_of x.kind x.note)) s1 k1 z s2 k2 u) (sym ex) m in
      let around : NodeMoves S E H s1 k1 x s2 k2 (record { kind = x.kind; note = x.note; below = u }) = record { moves = λ r. moves_under x.kind x.note r inner.moves; same_place = m.same_place } in
      node_then e (node_then (subst (λ z. NodeMoves S E H s1 k1 x s2 k2 z) (sym ey) around) w)

pub same_tree : (y : Tree) (k : Kind) (n : Note) (t : Forest) → y.kind ≡ k → y.note ≡ n → y.below ≡ t → y ≡ record { kind = k; note = n; below = t }
same_tree y k n t a b c = ap (λ x. record { kind = x; note = y.note; below = y.below }) a ∙ ap (λ x. record { kind = k; note = x; below = y.below }) b ∙ ap (λ x. record { kind = k; note = n; below = x }) c

pub written : {A : Type 0} (n : ℕ) (ys zs : List A) → n ≡ length ys → take n (ys ++ zs) ≡ ys
written n ys zs e = take-append-le n ys zs (omega (arith, e)) ∙ take_all n ys (omega (arith, e))
