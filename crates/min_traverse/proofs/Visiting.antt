-- Visits of one node more.
use Rattle.std.proofs.Common.{◌||◌, ◌≡◌, ◌∙◌, ◌<◌, ◌≤◌, ◌+◌, ◌++◌, ℕ, Bool, true, false, ◌≢◌, set, List, [], ◌∷◌, Option, Some, None, length, take, get_or, get_or-set_other, refl, sym, ap, subst, arith}
use Rattle.std.proofs.lemmas.List.{take_more, take_all}
use Rattle.js_syntax.specs.Node.{Forest, Tree, nothing, node, row, forest_of}
use Rattle.min_context.specs.Above.{above_of}
use Rattle.min_context.specs.Place.{Place, Spot, spot, place_of, goes_on, next_of, below, outside, top}
use Rattle.min_context.specs.Seen.{Seen}
use Rattle.scope_counts.specs.Edits.{Around}
use Rattle.min_options.specs.declared.options.CompressOptions.{CompressOptions}
use Rattle.min_traverse.specs.Moves.{NodeMovesAt}
use Rattle.min_traverse.specs.Slot.{outer_slot, middle_slot, inner_slot, enter_outer, enter_middle, enter_inner, exit_outer, exit_middle, exit_inner}
use Rattle.min_traverse.specs.Visits.{above_place, Called, Enters, Exits, NodeVisit, Visits, VisitsFront}
use Rattle.min_traverse.specs.declared.slot.Hook.{Hook}
use Rattle.min_traverse.proofs.Moving.{after}

module _ {S : Type 0} (V : Hook → S → Seen → Tree → S → Seen → Type 0) (has : Hook → Bool) where
  -- a node at a place
  abbrev At : Place → S → Seen → Tree → S → Seen → Type 0
  At q s k x s1 k1 = NodeVisit V has (Visits V has (below q (above_of x.kind x.note)) x.below) (above_place q) s (record k { place = q }) x s1 k1

  goes_on_pushed : (ts : List (Option Tree)) (t : Option Tree) → goes_on (row (ts ++ t ∷ [])) ≡ true
  goes_on_pushed [] None = refl
  goes_on_pushed [] (Some t) = refl
  goes_on_pushed (None ∷ ts) t = refl
  goes_on_pushed (Some x ∷ ts) t = refl

  either_way : (m b : Bool) → b ≡ true → true ≡ m || b
  either_way true b e = refl
  either_way false b e = sym e

  push : (p : Spot) (more : Bool) (ts : List (Option Tree)) (t : Option Tree) (a b c : S) (j k l : Seen) → VisitsFront V has p true (row ts) a j b k → VisitsFront V has (spot p (after (row ts))) more (row (t ∷ [])) b k c l → VisitsFront V has p more (row (ts ++ t ∷ [])) a j c l
  push p more [] t a b c j k l first next = rw (first.0, first.1) next
  push p more (None ∷ ts) t a b c j k l first next = push (next_of p false) more ts t a b c j k l first next
  push p more (Some x ∷ ts) t a b c j k l (s1, k1, v, w) next = (
    s1,
    k1,
    subst (λ m. At (place_of p m) a j x s1 k1) (either_way more (goes_on (row (ts ++ t ∷ []))) (goes_on_pushed ts t)) v,
    push (next_of p true) more ts t s1 b c (record k1 { place = p.outer }) k l w next,
  )

  pub one_more : (p : Spot) (more : Bool) (ts : List (Option Tree)) (i : ℕ) (x : Option Tree) (a b c : S) (j k l : Seen) → i < length ts → x ≡ get_or ts i x → VisitsFront V has p true (row (take i ts)) a j b k → VisitsFront V has (spot p (after (row (take i ts)))) more (row (x ∷ [])) b k c l → VisitsFront V has p more (row (take (i + 1) ts)) a j c l
  one_more p more ts i x a b c j k l h is first next = rw (take_more ts i x h, ← is) (push p more (take i ts) x a b c j k l first next)

  pub all_visited : (p : Spot) (ts : List (Option Tree)) (i : ℕ) (a b : S) (j k : Seen) → length ts ≤ i → Visits V has p (row (take i ts)) a j b k → Visits V has p (row ts) a j b k
  all_visited p ts i a b j k h w = rw (take_all i ts h) at w

  alone : (m : Bool) → m ≡ m || false
  alone true = refl
  alone false = refl

  -- a child alone
  pub child_visit : (p : Spot) (more : Bool) (x : Tree) (s s1 : S) (k k0 k1 k2 : Seen) → k.place ≡ p.outer → k0 ≡ record k { place = place_of p more } → k0.place ≡ place_of p more → k2 ≡ record k1 { place = k.place }
      → NodeVisit V has (Visits V has (below k0.place (above_of x.kind x.note)) x.below) (above_place k0.place) s k0 x s1 k1 → VisitsFront V has p more (forest_of x) s k s1 k2
  child_visit p more x s s1 k k0 k1 k2 o en at le v = (
    s1,
    k1,
    subst (λ m. At (place_of p m) s k x s1 k1) (alone more)
        (subst (λ c. NodeVisit V has (Visits V has (below (place_of p more) (above_of x.kind x.note)) x.below) (above_place (place_of p more)) s c x s1 k1) en
        (subst (λ q. NodeVisit V has (Visits V has (below q (above_of x.kind x.note)) x.below) (above_place q) s k0 x s1 k1) at v)),
    (refl, ap (λ q. record k1 { place = q }) (sym o) ∙ sym le),
  )

  -- the three hooks of a node
  pub enters : (x : Tree) (s s1 s2 s3 : S) (k k1 k2 k3 : Seen) → k1.place ≡ k.place
      → Called V has (enter_outer (outer_slot (above_place k.place) x.kind)) s k x s1 k1 → Called V has (enter_middle (middle_slot (above_place k1.place) x.kind)) s1 k1 x s2 k2 → Called V has (enter_inner (inner_slot x.kind)) s2 k2 x s3 k3
      → Enters V has (above_place k.place) s k x s3 k3
  enters x s s1 s2 s3 k k1 k2 k3 e a b c = record {
    s1 = s1;
    k1 = k1;
    s2 = s2;
    k2 = k2;
    at_first = a;
    at_second = subst (λ p. Called V has (enter_middle (middle_slot (above_place p) x.kind)) s1 k1 x s2 k2) e b;
    at_third = c;
  }

  pub exits : (x y z : Tree) (s s1 s2 s3 : S) (k k1 k2 k3 : Seen) → y ≡ x → z ≡ x → k1.place ≡ k.place → k2.place ≡ k.place
      → Called V has (exit_inner (inner_slot x.kind)) s k x s1 k1 → Called V has (exit_middle (middle_slot (above_place k1.place) y.kind)) s1 k1 y s2 k2 → Called V has (exit_outer (outer_slot (above_place k2.place) z.kind)) s2 k2 z s3 k3
      → Exits V has (above_place k.place) s k x s3 k3
  exits x y z s s1 s2 s3 k k1 k2 k3 same last e f a b c = record {
    s1 = s1;
    k1 = k1;
    s2 = s2;
    k2 = k2;
    at_first = a;
    at_second = subst (λ p. Called V has (exit_middle (middle_slot (above_place p) x.kind)) s1 k1 x s2 k2) e (subst (λ t. Called V has (exit_middle (middle_slot (above_place k1.place) t.kind)) s1 k1 t s2 k2) same b);
    at_third = subst (λ p. Called V has (exit_outer (outer_slot (above_place p) x.kind)) s2 k2 x s3 k3) f (subst (λ t. Called V has (exit_outer (outer_slot (above_place k2.place) t.kind)) s2 k2 t s3 k3) last c);
  }

  -- a node: its hooks, and what lies below it
  pub node_visit : (x y : Tree) (t : Forest) (s s1 s2 s3 : S) (k k1 k2 k3 : Seen) → k1.place ≡ k.place → k2.place ≡ k1.place → x.below ≡ t → y ≡ x
      → Enters V has (above_place k.place) s k x s1 k1 → Visits V has (below k1.place (above_of x.kind x.note)) t s1 k1 s2 k2 → Exits V has (above_place k2.place) s2 k2 y s3 k3
      → NodeVisit V has (Visits V has (below k.place (above_of x.kind x.note)) x.below) (above_place k.place) s k x s3 k3
  node_visit x y t s s1 s2 s3 k k1 k2 k3 e f ex same a b c = record {
    s1 = s1;
    k1 = k1;
    s2 = s2;
    k2 = k2;
    enters = a;
    inside = subst (λ p. Visits V has (below p (above_of x.kind x.note)) x.below s1 k1 s2 k2) e (subst (λ u. Visits V has (below k1.place (above_of x.kind x.note)) u s1 k1 s2 k2) (sym ex) b);
    exits = subst (λ p. Exits V has (above_place p) s2 k2 x s3 k3) (f ∙ e) (subst (λ u. Exits V has (above_place k2.place) s2 k2 u s3 k3) same c);
  }

  -- the program
  pub root_visit : (x : Tree) (s s1 : S) (k k1 : Seen) → k.place ≡ outside → k1.place ≡ outside → NodeVisit V has (Visits V has (below k.place (above_of x.kind x.note)) x.below) (above_place k.place) s k x s1 k1 → Visits V has top (forest_of x) s k s1 k1
  root_visit x s s1 k k1 e f v = (
    s1,
    k1,
    subst (λ q. NodeVisit V has (Visits V has (below q (above_of x.kind x.note)) x.below) (above_place q) s (record k { place = q }) x s1 k1) e v,
    (refl, ap (λ q. record k1 { place = q }) (sym f)),
  )

-- what asks for no other pass leaves the node as it is
abbrev head : Tree → Forest → Tree
head x (node k n inside rest) = record { kind = k; note = n; below = inside }
head x t = x

pub quiet_node : {S : Type 0} {E : CompressOptions → Forest → Forest → Type 0} {H : S → Seen → Forest → Type 0} {At : Around → (rest : Forest) → Type 0} {s s' : S} {k k' : Seen} {x y : Tree} → NodeMovesAt S E H At s k x s' k' y → k'.requested ≡ false → y ≡ x
quiet_node {x = x} m q = ap (head x) ((m.moves nothing).quiet q)

pub later_unvisited : (old ts : List (Option Tree)) (i : ℕ) (y : Option Tree) → ((j : ℕ) (d : Option Tree) → i ≤ j → get_or ts j d ≡ get_or old j d) → (j : ℕ) (d : Option Tree) → i + 1 ≤ j → get_or (set ts i y) j d ≡ get_or old j d
later_unvisited old ts i y un j d h = let ne : j ≢ i = omega arith in rw get_or-set_other (un j d (omega arith))
