-- The same count by a walk that carries something down the tree: in whose declaration a reference stands, or whether what it
-- stands in is held dead.
use Rattle.std.specs.Prelude.{◌≡◌, ℕ, suc, ◌+◌, Bool, true, false, not, ◌&&◌, cond, nat_eq, Option, Some, None}
use Rattle.js_syntax.specs.declared.node_kind.NodeKind.{NodeKind as Kind}
use Rattle.js_syntax.specs.declared.node_kind.NodeKind.TheVariants.{Program as program, Function as function, BindingName as binding_name}
use Rattle.js_syntax.specs.declared.kind.FunctionKind.TheVariants as function_kind
use Rattle.js_syntax.specs.Node.{Forest, nothing, node, absent}
use Rattle.scope_counts.specs.Counts.{declared_by_program, Bound, Weight, free, within, weights_inside, own, symbol_with}
use Rattle.scope_counts.specs.Edits.{Around, here, behind, behind_none, under, plug}
use Rattle.scope_counts.specs.Losing.{is_gone, gone_with}

-- What is carried says whether a reference counts, and what is carried into a node.
module _ {S : Type 0} (counts : S → Bool) (enters : S → Kind → (below : Forest) → S) where
  abbrev pub carried : Bound → (ws : ℕ → Weight) → (at : ℕ) → S → Forest → ℕ
  carried g ws at s nothing = 0
  carried g ws at s (absent rest) = carried g ws (suc at) s rest
  carried g ws at s (node k n below rest) = cond (counts s) (own (ws at) n k) 0 + carried g (weights_inside g k below (ws at)) 0 (enters s k below) below + carried g ws (suc at) s rest

  abbrev pub carried_of : Bound → S → Forest → ℕ
  carried_of g s (node (program source) n below beside) = carried g (λ at. within g (declared_by_program below beside) free) 0 s below + carried g (λ at. free) 1 s beside
  carried_of g s t = 0

  -- the nodes around are entered with the one as with the other
  abbrev pub SameEntries : Around → (t u : Forest) → Type 0
  SameEntries here t u = Unit {0}
  SameEntries (behind k n b a) t u = SameEntries a t u
  SameEntries (behind_none a) t u = SameEntries a t u
  SameEntries (under k n a rest) t u = ((s : S) → enters s k (plug a t) ≡ enters s k (plug a u)) × SameEntries a t u

-- every reference to the symbol, and to one that is gone
abbrev pub to_symbol : ℕ → Bound
to_symbol s = symbol_with s (λ q. 1)

abbrev pub to_gone : (ℕ → Bool) → Bound
to_gone gone = gone_with gone (λ q. 1)

-- ---- who refers: the mark of the innermost function declaration around that has a name, or none

abbrev pub mark_of : (outer : Option ℕ) → (below : Forest) → Option ℕ
mark_of outer (node (binding_name x) n below rest) = n.id
mark_of outer t = outer

abbrev pub owner_in : (outer : Option ℕ) → Kind → (below : Forest) → Option ℕ
owner_in outer (function function_kind.Declaration pure) below = mark_of outer below
owner_in outer k below = outer

abbrev pub is_owner : (o q : Option ℕ) → Bool
is_owner None None = true
is_owner (Some o) (Some q) = nat_eq o q
is_owner o q = false

-- how many references that are bound to the symbol stand in the declaration of the function marked o, or outside of all
abbrev pub calls : (o : Option ℕ) → (s : ℕ) → Forest → ℕ
calls o s t = carried_of (is_owner o) owner_in (to_symbol s) None t

-- those that are bound to what is gone
abbrev pub calls_gone : (gone : ℕ → Bool) → (o : Option ℕ) → Forest → ℕ
calls_gone gone o t = carried_of (is_owner o) owner_in (to_gone gone) None t

-- ---- what is held dead: nothing below such a node is counted

abbrev pub lives_in : (skips : Kind → Forest → Bool) → (lives : Bool) → Kind → (below : Forest) → Bool
lives_in skips lives k below = lives && not (skips k below)

abbrev pub living : (skips : Kind → Forest → Bool) → Bound → Forest → ℕ
living skips g t = carried_of (λ lives. lives) (lives_in skips) g true t

-- the declarations of functions whose marks are of these
abbrev pub is_dead : (dead : ℕ → Bool) → Kind → (below : Forest) → Bool
is_dead dead (function function_kind.Declaration pure) below = is_gone dead (mark_of None below)
is_dead dead k below = false
