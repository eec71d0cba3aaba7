-- After a walk that asks for no other no list of a function's body has an empty statement.
use Rattle.std.proofs.Common.{◌≡◌, ◌∙◌, ◌&&◌, ◌||◌, ℕ, Bool, true, false, true≢false, Option, Some, None, cond, refl, sym, ap, subst, arith}
use Rattle.std.proofs.lemmas.Bool.{and_parts}
use Rattle.js_syntax.specs.declared.node_kind.NodeKind.{NodeKind as Kind}
use Rattle.js_syntax.specs.declared.node_kind.NodeKind.TheVariants.{Statements as statements}
use Rattle.js_syntax.specs.Node.{Forest, Tree, nothing, node, absent}
use Rattle.min_context.specs.Above.{above_of}
use Rattle.min_context.specs.Place.{Place, Spot, goes_on, place_of, next_of, below, top}
use Rattle.min_context.specs.Seen.{Seen}
use Rattle.min_context.specs.declared.ancestor.Ancestor.{Ancestor}
use Rattle.min_context.specs.declared.ancestor.Ancestor.TheVariants.{Field as field}
use Rattle.min_context.specs.declared.ancestor.Parent.TheVariants as parent
use Rattle.min_traverse.specs.Slot.{outer_slot, exit_outer}
use Rattle.min_traverse.specs.Visits.{above_place, Called, NodeVisit, Visits}
use Rattle.min_traverse.specs.declared.slot.Hook.{Hook}
use Rattle.min_traverse.specs.declared.slot.Hook.TheVariants as hook
use Rattle.min_traverse.specs.declared.slot.Outer.TheVariants as outer
use Rattle.test_traverse.specs.Bodies.{is_empty, has_empty, is_list, is_body, empty_in, empty_in_bodies}
use Rattle.test_traverse.specs.Cleaning.{is_body_above, is_written, LeftAlone}
use Rattle.test_traverse.proofs.Editing.{TellsBody, body_below}

-- ---- the hook is called at each list of a body

slot_at : (above : Ancestor) (k : Kind) → is_body_above above ≡ true → is_list k ≡ true → outer_slot above k ≡ outer.Statements
slot_at (field parent.FunctionBody at) statements e f = refl
slot_at (field parent.FunctionBody at) k e f = absurd (true≢false (sym f))
slot_at above k e f = absurd (true≢false (sym e))

-- ---- the first of a list, and the others

first_of : (list b more : Bool) → (list ≡ true → b || more ≡ false) → ◌≡◌ {A = ℕ} (cond (list && b) 1 0) 0
first_of false b more h = refl
first_of true false more h = refl
first_of true true more h = absurd (true≢false (h refl))

others_of : (list b more : Bool) → (list ≡ true → b || more ≡ false) → list ≡ true → more ≡ false
others_of list false more h e = h e
others_of list true more h e = absurd (true≢false (h e))

module _ {S : Type 0} where
  abbrev Alone : Hook → S → Seen → Tree → S → Seen → Type 0
  Alone h s c x s' d = LeftAlone c x d

  -- ---- the context stays

  called : (o : Option Hook) (s : S) (c : Seen) (x : Tree) (s' : S) (d : Seen) → Called Alone is_written o s c x s' d → d ≡ c
  called None s c x s' d h = sym h.1
  called (Some hook.ExitStatements) s c x s' d h = h.same
  called (Some k) s c x s' d h = sym h.1

  -- but for its place, which is that of the node above
  place_stays : (p : Spot) (t : Forest) (s : S) (k : Seen) (s' : S) (k' : Seen) → k.place ≡ p.outer → Visits Alone is_written p t s k s' k' → k'.place ≡ p.outer
  place_stays p nothing s k s' k' e v = ap (λ z. z.place) (sym v.1) ∙ e
  place_stays p (absent rest) s k s' k' e v = place_stays (next_of p false) rest s k s' k' e v
  place_stays p (node c n inside rest) s k s' k' e v = place_stays (next_of p true) rest v.0 (record v.1 { place = p.outer }) s' k' refl v.3

  -- ---- what the hook saw

  seen_at : (p : Place) (x : Tree) (s : S) (k : Seen) (s' : S) (k' : Seen) (body : Bool) → is_body_above (above_place p) ≡ body → k.place ≡ p
      → NodeVisit Alone is_written (Visits Alone is_written (below p (above_of x.kind x.note)) x.below) (above_place p) s k x s' k'
      → body && is_list x.kind ≡ true → has_empty x.below ≡ false
  seen_at p x s k s' k' body told at v e =
      let parts = and_parts body (is_list x.kind) e in
      let above = above_place p in
      let is_above : is_body_above above ≡ true = told ∙ parts.0 in
      let entered : v.k1 ≡ k =
      called _ v.enters.s2 v.enters.k2 x v.s1 v.k1 v.enters.at_third ∙ called _ v.enters.s1 v.enters.k1 x v.enters.s2 v.enters.k2 v.enters.at_second ∙ called _ s k x v.enters.s1 v.enters.k1 v.enters.at_first in
      let back : v.k2.place ≡ p = place_stays (below p (above_of x.kind x.note)) x.below v.s1 v.k1 v.s2 v.k2 (ap (λ z. z.place) entered ∙ at) v.inside in
      let left : v.exits.k2 ≡ v.k2 = called _ v.exits.s1 v.exits.k1 x v.exits.s2 v.exits.k2 v.exits.at_second ∙ called _ v.s2 v.k2 x v.exits.s1 v.exits.k1 v.exits.at_first in
      let here : v.exits.k2.place ≡ p = ap (λ z. z.place) left ∙ back in
      let alone : LeftAlone v.exits.k2 x k' = subst (λ o. Called Alone is_written (exit_outer o) v.exits.s2 v.exits.k2 x s' k') (slot_at above x.kind is_above parts.1) v.exits.at_third in
      clean (is_body_above (above_place v.exits.k2.place)) (is_list x.kind) (has_empty x.below) (ap (λ q. is_body_above (above_place q)) here ∙ is_above) parts.1 alone.clean
    where
      clean : (b l h : Bool) → b ≡ true → l ≡ true → b && (l && h) ≡ false → h ≡ false
      clean true true h e f g = g
      clean true false h e f g = absurd (true≢false (sym f))
      clean false l h e f g = absurd (true≢false (sym e))

  -- ---- so there is none

  none_in : (p : Spot) (t : Forest) (s : S) (k : Seen) (s' : S) (k' : Seen) (body list : Bool) → TellsBody p body → (list ≡ true → has_empty t ≡ false) → Visits Alone is_written p t s k s' k' → empty_in body list t ≡ 0
  none_in p nothing s k s' k' body list told clean v = refl
  none_in p (absent rest) s k s' k' body list told clean v = none_in (next_of p false) rest s k s' k' body list told clean v
  none_in p (node c n inside rest) s k s' k' body list told clean (s1, k1, visit, more) =
      let x : Tree = record { kind = c; note = n; below = inside } in
      let here = first_of list (is_empty c inside) (has_empty rest) clean in
      let q = place_of p (goes_on rest) in
      let seen = seen_at q x s (record k { place = q }) s1 k1 body (told p.at p.previous (goes_on rest)) refl visit in
      let under = none_in (below q (above_of c n)) inside visit.s1 visit.k1 visit.s2 visit.k2 (is_body c) (body && is_list c) (body_below q c n) seen visit.inside in
      let later = none_in (next_of p true) rest s1 (record k1 { place = p.outer }) s' k' body list told (others_of list (is_empty c inside) (has_empty rest) clean) more in
      Prim.omega (arith, here, under, later)

  pub none_left : (t : Forest) (s : S) (k : Seen) (s' : S) (k' : Seen) → Visits Alone is_written top t s k s' k' → empty_in_bodies t ≡ 0
  none_left t s k s' k' v = none_in top t s k s' k' false false (λ at previous more. refl) (λ e. absurd (true≢false (sym e))) v
