-- What a hook and a walk do to a node or a row, in every program around it.
use Rattle.std.specs.Prelude.{◌≡◌, ℕ, ◌+◌, ◌<◌, ◌≤◌, Bool, false, cond, length, nat_lt, ◌||◌}
use Rattle.js_syntax.specs.Facts.{weight}
use Rattle.js_syntax.specs.Node.{Forest, Tree, node, total}
use Rattle.scope_counts.specs.Counts.{ids}
use Rattle.scope_counts.specs.Edits.{Around, plug}
use Rattle.symbol_sets.specs.Numbers.{has}
use Rattle.min_context.specs.IsTrue.{IsTrue}
use Rattle.min_context.specs.Place.{Spot, spot, top, place_at, goes_on}
use Rattle.min_context.specs.Seen.{Seen, still}
use Rattle.min_options.specs.declared.options.CompressOptions.{CompressOptions}
use Rattle.min_traverse.specs.Edits.{Edits}

-- what hooks ask of the whole program: what the context tells is true, and what the walker asks beside
abbrev pub Holds : {S : Type 0} → (Own : S → Seen → Forest → Type 0) → S → Seen → Forest → Type 0
Holds Own s c t = IsTrue c t × Own s c t

-- one more where another pass is asked for, so that a pass which asks for one makes less of the program
abbrev pub busy : Seen → ℕ
busy c = cond c.requested 1 0

-- At a place the rest t of a row became u, the walker s became s', and the context k became k'. `At` says around what that
-- place is, `E` which single edits there are, and `H` what is asked of the whole program.
pub record Moves (S : Type 0) (E : CompressOptions → Forest → Forest → Type 0) (H : S → Seen → Forest → Type 0) (At : Around → Type 0) (s : S) (k : Seen) (t : Forest) (s' : S) (k' : Seen) (u : Forest) : Type 0 where
  pub keeps : (a : Around) → At a → H s (still k) (plug a t) → H s' (still k') (plug a u)
  pub edits : (a : Around) → At a → H s (still k) (plug a t) → Edits (E k.options) (plug a t) (plug a u)
  pub options : k'.options ≡ k.options
  -- what left is marked, and nothing else
  pub room : length k'.marked ≡ length k.marked
  pub fewer : (r : ℕ) → ids r u ≤ ids r t
  pub marks : (r : ℕ) → r < length k.marked → has k'.marked r ≡ (has k.marked r || nat_lt (ids r u) (ids r t))
  pub lighter : total weight u + busy k' ≤ total weight t + busy k
  -- what asks for no other pass changes nothing
  pub quiet : k'.requested ≡ false → u ≡ t
  pub quiet_before : k'.requested ≡ false → k.requested ≡ false

-- a node with others behind it
abbrev pub before : Tree → Forest → Forest
before x r = node x.kind x.note x.below r

-- Of one node, whatever stands behind it, by which `At` may go too; the walk is back at the place where it was.
pub record NodeMovesAt (S : Type 0) (E : CompressOptions → Forest → Forest → Type 0) (H : S → Seen → Forest → Type 0) (At : Around → (rest : Forest) → Type 0) (s : S) (k : Seen) (x : Tree) (s' : S) (k' : Seen) (y : Tree) : Type 0 where
  pub moves : (r : Forest) → Moves S E H (λ a. At a r) s k (before x r) s' k' (before y r)
  pub same_place : k'.place ≡ k.place

-- where the context tells that the walk is, before the rest of a row
abbrev pub IsHere : Seen → Around → (rest : Forest) → Type 0
IsHere k a rest = place_at a (goes_on rest) ≡ k.place

abbrev pub NodeMoves : (S : Type 0) (E : CompressOptions → Forest → Forest → Type 0) (H : S → Seen → Forest → Type 0) (s : S) (k : Seen) (x : Tree) (s' : S) (k' : Seen) (y : Tree) → Type 0
NodeMoves S E H s k x s' k' y = NodeMovesAt S E H (IsHere k) s k x s' k' y

-- the row that begins at a spot
abbrev pub IsAt : Spot → Around → Type 0
IsAt p a = spot top a ≡ p

-- the first node of such a row, where there are more behind it or none
abbrev pub IsFirst : Spot → (more : Bool) → Around → (rest : Forest) → Type 0
IsFirst p more a rest = IsAt p a × (goes_on rest ≡ more)

-- of the whole row; the walk is at the place of its parent
pub record RowMoves (S : Type 0) (E : CompressOptions → Forest → Forest → Type 0) (H : S → Seen → Forest → Type 0) (p : Spot) (s : S) (k : Seen) (t : Forest) (s' : S) (k' : Seen) (u : Forest) : Type 0 where
  pub moves : Moves S E H (IsAt p) s k t s' k' u
  pub same_place : k'.place ≡ k.place
