-- What does nothing but evaluate some parts, where nobody takes its value.
use Rattle.std.specs.Prelude.{◌≡◌, List, [], ◌∷◌, Some, None}
use Rattle.js_meaning.specs.Value.{Text, Env, Value, plain, closure, undef}
use Rattle.js_meaning.specs.Trace.{Ending}
use Rattle.js_meaning.specs.State.{State, Out, goes, stops, M, normal, done, unknown, with_receiver, with_value}
use Rattle.js_meaning.specs.Scope.{look}
use Rattle.js_meaning.specs.Host.{Enter}
use Rattle.js_meaning.specs.Reference.{name_value}
use Rattle.js_meaning.specs.Expression.{call_value}
use Rattle.js_meaning.specs.Meaning.{enter_body}
use Rattle.js_meaning.specs.Node.{now, Meaning, Parts}
use Rattle.js_meaning_near.specs.Quiet.{OnlyAllocates, Quiet}
use Rattle.js_meaning_near.specs.Names.{Fact, exactly, silent_function, owed_function, known, Names}

-- the parts one after the other
unfoldable pub drops : Parts → Env → M
drops [] env = done normal
drops (None ∷ ms) env = unknown
drops (Some m ∷ ms) env = with_value (m now env) (λ v. drops ms env)

-- From this state it is over and showed nothing, or it is uncovered and showed nothing.
pub data EndsSoon (s : State) : Out → Type 0 where
  ends_soon : {z : State} → OnlyAllocates s z → EndsSoon s (goes [] z normal)
  stops_soon : EndsSoon s (stops [] Ending.uncovered)

-- a function of the program whose calls do nothing but give a value
abbrev pub IsSilent : Value → Type 0
IsSilent (closure i f a env) = (E : Enter) (this : Value) (vs : List Value) → Quiet (enter_body E f a env this vs)
IsSilent _ = ⊥

abbrev pub Meets : Fact → Value → Type 0
Meets (exactly p) v = v ≡ plain p
Meets silent_function v = IsSilent v
Meets owed_function v = IsSilent v

-- By the names, the environment, what is done, and the parts: whatever is done with their values and in between is quiet,
-- or is a call that does nothing.
pub data Wastes (E : Enter) (st : Names) (env : Env) : M → Parts → Type 0 where
  wastes_nothing : {m : M} → ((s : State) → EndsSoon s (m s)) → Wastes E st env m []
  wastes_part : {p : Meaning} {k : Value → M} {ms : Parts} → ((v : Value) → Wastes E st env (k v) ms) → Wastes E st env (with_value (p now env) k) (Some p ∷ ms)
  wastes_silent : {m : M} {k : Value → M} {ms : Parts} → Quiet m → ((v : Value) → Wastes E st env (k v) ms) → Wastes E st env (with_value m k) ms
  wastes_known : {x : Text} {f : Fact} {ms : Parts} (k : Value → Value → M) → st x ≡ known f → ((v : Value) → Meets f v → Wastes E st env (k v undef) ms) → Wastes E st env (with_receiver (name_value (look env x) x) k) ms
  wastes_call : {x : Text} {k : Value → M} {ms : Parts} (v this : Value) (vs : List Value) → st x ≡ known silent_function → IsSilent v → ((u : Value) → Wastes E st env (k u) ms) → Wastes E st env (with_value (call_value E v this vs) k) ms

-- So, but for one call that is owed for, behind which nothing is done.
pub data Owing (E : Enter) (st : Names) (env : Env) : M → Parts → Type 0 where
  owing_part : {p : Meaning} {k : Value → M} {ms : Parts} → ((v : Value) → Owing E st env (k v) ms) → Owing E st env (with_value (p now env) k) (Some p ∷ ms)
  owing_silent : {m : M} {k : Value → M} {ms : Parts} → Quiet m → ((v : Value) → Owing E st env (k v) ms) → Owing E st env (with_value m k) ms
  owing_known : {x : Text} {f : Fact} {ms : Parts} (k : Value → Value → M) → st x ≡ known f → ((v : Value) → Meets f v → Owing E st env (k v undef) ms) → Owing E st env (with_receiver (name_value (look env x) x) k) ms
  owing_call : {k : Value → M} (v this : Value) (vs : List Value) → IsSilent v → ((u : Value) (s : State) → EndsSoon s (k u s)) → Owing E st env (with_value (call_value E v this vs) k) []
