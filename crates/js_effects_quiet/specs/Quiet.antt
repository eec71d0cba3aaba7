-- When nobody can tell that a computation ran, or it met an uncovered act before anything could be told.
use Rattle.std.specs.Prelude.{◌≡◌, ◌≤◌, ◌<◌, ℕ, []}
use Rattle.js_meaning.specs.Trace.{Ending}
use Rattle.js_meaning.specs.State.{State, Completion, normal, gives, gives_all, Out, goes, stops, M}

-- The later state has new cells and objects, and is otherwise the earlier one.
pub record OnlyAllocates (s z : State) : Type 0 where
  pub budget : z.budget ≡ s.budget
  pub fresh : s.fresh ≤ z.fresh
  pub store : (i : ℕ) → i < s.fresh → z.store i ≡ s.store i
  pub globals : z.globals ≡ s.globals
  pub imports : z.imports ≡ s.imports
  pub shown : z.shown ≡ s.shown
  pub moves : z.moves ≡ s.moves
  pub exports : z.exports ≡ s.exports
  pub stars : z.stars ≡ s.stars

-- From this state: on without an event, by allocation only and with a completion as it is wanted; or to an uncovered act,
-- again without an event.
pub data Silently (Wanted : Completion → Type 0) (s : State) : Out → Type 0 where
  goes_on : {z : State} {c : Completion} → OnlyAllocates s z → Wanted c → Silently Wanted s (goes [] z c)
  is_uncovered : Silently Wanted s (stops [] Ending.uncovered)

-- so from every state
pub record Quietly (Wanted : Completion → Type 0) (m : M) : Type 0 where
  pub at : (s : State) → Silently Wanted s (m s)

abbrev pub IsValue : Completion → Type 0
IsValue (gives v r) = Unit {0}
IsValue _ = ⊥

abbrev pub IsList : Completion → Type 0
IsList (gives_all vs) = Unit {0}
IsList _ = ⊥

abbrev pub IsNormal : Completion → Type 0
IsNormal normal = Unit {0}
IsNormal _ = ⊥

-- an expression that gives a value, and nothing else that could be told
abbrev pub Quiet : M → Type 0
Quiet m = Quietly IsValue m
