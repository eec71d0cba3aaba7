-- What a walk was that changed nothing: a visit of every node, in order of places.
use Rattle.std.specs.Prelude.{◌≡◌, ◌||◌, Bool, true, false, Option, Some, None}
use Rattle.js_syntax.specs.Node.{Forest, Tree, nothing, node, absent}
use Rattle.min_context.specs.Above.{above_of}
use Rattle.min_context.specs.Ancestry.{nearest}
use Rattle.min_context.specs.Place.{Place, Spot, place_of, next_of, below, goes_on}
use Rattle.min_context.specs.Seen.{Seen}
use Rattle.min_context.specs.declared.ancestor.Ancestor.{Ancestor}
use Rattle.min_traverse.specs.Slot.{outer_slot, middle_slot, inner_slot, enter_outer, enter_middle, enter_inner, exit_outer, exit_middle, exit_inner}
use Rattle.min_traverse.specs.declared.slot.Hook.{Hook}

-- the node above the place
abbrev pub above_place : Place → Ancestor
above_place p = nearest p.ancestors 0

-- V says what a hook did that asked for nothing, and `written` which hooks the walker has.
module _ {S : Type 0} (V : Hook → S → Seen → Tree → S → Seen → Type 0) (written : Hook → Bool) where
  abbrev pub Heard : (is_written : Bool) → Hook → S → Seen → Tree → S → Seen → Type 0
  Heard true h s k x s' k' = V h s k x s' k'
  Heard false h s k x s' k' = (s ≡ s') × (k ≡ k')

  abbrev pub Called : Option Hook → S → Seen → Tree → S → Seen → Type 0
  Called None s k x s' k' = (s ≡ s') × (k ≡ k')
  Called (Some h) s k x s' k' = Heard (written h) h s k x s' k'

  -- three hooks of a node, one after another
  pub record InTurn (first second third : Option Hook) (s : S) (k : Seen) (x : Tree) (s' : S) (k' : Seen) : Type 0 where
    pub s1 : S
    pub k1 : Seen
    pub s2 : S
    pub k2 : Seen
    pub at_first : Called first s k x s1 k1
    pub at_second : Called second s1 k1 x s2 k2
    pub at_third : Called third s2 k2 x s' k'

  abbrev pub Enters : Ancestor → S → Seen → Tree → S → Seen → Type 0
  Enters above s k x s' k' = InTurn (enter_outer (outer_slot above x.kind)) (enter_middle (middle_slot above x.kind)) (enter_inner (inner_slot x.kind)) s k x s' k'

  abbrev pub Exits : Ancestor → S → Seen → Tree → S → Seen → Type 0
  Exits above s k x s' k' = InTurn (exit_inner (inner_slot x.kind)) (exit_middle (middle_slot above x.kind)) (exit_outer (outer_slot above x.kind)) s k x s' k'

  -- a node: the hooks at its entry, what lies below it, the hooks behind it
  pub record NodeVisit (Inside : S → Seen → S → Seen → Type 0) (above : Ancestor) (s : S) (k : Seen) (x : Tree) (s' : S) (k' : Seen) : Type 0 where
    pub s1 : S
    pub k1 : Seen
    pub s2 : S
    pub k2 : Seen
    pub enters : Enters above s k x s1 k1
    pub inside : Inside s1 k1 s2 k2
    pub exits : Exits above s2 k2 x s' k'

  -- A row at a spot, with more behind it or none. Between its nodes the walk is at the place of their parent.
  abbrev pub VisitsFront : Spot → (more : Bool) → Forest → S → Seen → S → Seen → Type 0
  VisitsFront p more nothing s k s' k' = (s ≡ s') × (k ≡ k')
  VisitsFront p more (absent rest) s k s' k' = VisitsFront (next_of p false) more rest s k s' k'
  VisitsFront p more (node c n inside rest) s k s' k' =
      (s1 : S) × (k1 : Seen)
      × NodeVisit (VisitsFront (below (place_of p (more || goes_on rest)) (above_of c n)) false inside) (above_place (place_of p (more || goes_on rest))) s (record k { place = place_of p (more || goes_on rest) }) (record { kind = c; note = n; below = inside }) s1 k1
      × VisitsFront (next_of p true) more rest s1 (record k1 { place = p.outer }) s' k'

  -- all of a row
  abbrev pub Visits : Spot → Forest → S → Seen → S → Seen → Type 0
  Visits p t = VisitsFront p false t
