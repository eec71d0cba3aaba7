-- When a computation gives what is wanted, if it gives a value at all.
use Rattle.js_meaning.specs.Value.{Value}
use Rattle.js_meaning.specs.State.{State, Completion, gives, Out, goes, stops, M}

-- of a value that is given; any other end will do
abbrev pub OfValue : (Value → Type 0) → Completion → Type 0
OfValue P (gives v r) = P v
OfValue P c = Unit {0}

-- of how a computation goes on, if it does
abbrev pub IsSo : (Completion → Type 0) → Out → Type 0
IsSo Wanted (goes es s c) = Wanted c
IsSo Wanted (stops es e) = Unit {0}

-- from every state
pub record Ends (Wanted : Completion → Type 0) (m : M) : Type 0 where
  pub at : (s : State) → IsSo Wanted (m s)

abbrev pub Gives : (Value → Type 0) → M → Type 0
Gives P m = Ends (OfValue P) m
