-- Where a node stands, as the context of a walk tells it.
use Rattle.std.specs.Prelude.{ℕ, suc, ◌==◌, not, ◌&&◌, List, [], ◌∷◌, ◌++◌, Bool, true, false, Option, Some, None, if◌then◌else◌}
use Rattle.js_syntax.specs.Node.{Forest}
use Rattle.js_effects.specs.Silence.{is_nothing}
use Rattle.scope_counts.specs.Edits.{Around, here, behind, behind_none, under}
use Rattle.min_context.specs.Above.{above_of, is_within}
use Rattle.min_context.specs.declared.ancestor.Above.{Above}
use Rattle.min_context.specs.declared.ancestor.Ancestor.{Ancestor}
use Rattle.min_context.specs.declared.ancestor.Ancestor.TheVariants.{Field as field}
use Rattle.min_context.specs.declared.ancestor.Parent.{Parent}
use Rattle.min_context.specs.declared.ancestor.Parent.TheVariants as parent

pub record Place : Type 0 where
  -- the nodes above, the outermost first
  pub ancestors : List Ancestor
  -- the numbers of the innermost scope, of that in which `var` declares, and of that of the list of statements around
  pub scope : ℕ
  pub hoist_scope : ℕ
  pub block_scope : ℕ

-- that of the program
abbrev pub outside : Place
outside = record { ancestors = []; scope = 0; hoist_scope = 0; block_scope = 0 }

-- Of a class it is told behind its heritage whether it has one, and of a list of parts whether another stands behind this one.
abbrev pub told_of : Parent → (at : ℕ) → (previous more : Bool) → Parent
told_of (parent.Class derived) at previous more = parent.Class (at == 2 && previous)
told_of (parent.Expressions followed) at previous more = parent.Expressions more
told_of p at previous more = p

abbrev pub number_or : ℕ → Option ℕ → ℕ
number_or n None = n
number_or n (Some m) = m

-- the number of the node's scope, if the child lies in it and this is such a scope
abbrev pub scope_inside : (old : ℕ) → Above → (at : ℕ) → (counts : Bool) → ℕ
scope_inside old a at counts = if counts && is_within a.within at then number_or old a.id else old

-- Where the child at an index stands, from where its parent stands, what that is, whether the child before it is there, and whether
-- there are more behind it.
abbrev pub inside : Place → Above → (at : ℕ) → (previous more : Bool) → Place
inside p a at previous more = record {
  ancestors = p.ancestors ++ (field (told_of a.parent at previous more) at ∷ []);
  scope = scope_inside p.scope a at true;
  hoist_scope = scope_inside p.hoist_scope a at a.hoists;
  block_scope = scope_inside p.block_scope a at a.is_of_list;
}

-- ---- of a row

-- which child of which node it is: a row at the top has no node above
pub record Spot : Type 0 where
  pub outer : Place
  pub above : Option Above
  pub at : ℕ
  pub previous : Bool

abbrev pub place_below : Place → Option Above → (at : ℕ) → (previous more : Bool) → Place
place_below p None at previous more = p
place_below p (Some a) at previous more = inside p a at previous more

-- where that child stands, with more behind it or none
abbrev pub place_of : Spot → (more : Bool) → Place
place_of s more = place_below s.outer s.above s.at s.previous more

-- whether there are more, by what stands behind
abbrev pub goes_on : (rest : Forest) → Bool
goes_on rest = not (is_nothing rest)

abbrev pub next_of : Spot → (is_there : Bool) → Spot
next_of s is_there = record { outer = s.outer; above = s.above; at = suc s.at; previous = is_there }

-- the first of those below a node
abbrev pub below : Place → Above → Spot
below p a = record { outer = p; above = Some a; at = 0; previous = false }

abbrev pub top : Spot
top = record { outer = outside; above = None; at = 0; previous = false }

-- where the row stands that is left out of a tree
abbrev pub spot : Spot → Around → Spot
spot s here = s
spot s (behind k n b a) = spot (next_of s true) a
spot s (behind_none a) = spot (next_of s false) a
spot s (under k n a rest) = spot (below (place_of s (goes_on rest)) (above_of k n)) a

-- and where its first node stands, with more behind it or none
abbrev pub place_at : Around → (more : Bool) → Place
place_at a more = place_of (spot top a) more
