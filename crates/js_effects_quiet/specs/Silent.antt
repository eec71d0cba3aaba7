-- What is known of the names that a piece of a program refers to, and when all that it does is quiet.
use Rattle.std.specs.Prelude.{◌≡◌, ◌⊎◌, List, [], ◌∷◌, Bool, true, Option, Some, None, is_some, codes}
use Rattle.std.specs.Str.{bytes_eq}
use Rattle.js_syntax.specs.declared.node_kind.NodeKind.{NodeKind as Kind}
use Rattle.js_syntax.specs.Node.{Forest, nothing, node, absent, Note}
use Rattle.js_syntax.specs.Facts.{is_core}
use Rattle.js_syntax.specs.declared.operator.UnaryOperator.TheVariants as unary
use Rattle.js_effects.specs.Still.{is_value}
use Rattle.js_effects.specs.Silence.{runs_its_parts, is_marked, is_one_name}
use Rattle.js_meaning.specs.Value.{Text, Env, this_name}
use Rattle.js_meaning.specs.State.{Completion}
use Rattle.js_meaning.specs.Scope.{look}
use Rattle.js_meaning.specs.Host.{Enter}
use Rattle.js_meaning.specs.Node.{Ask, value, collect, entry, Meaning, Parts}
use Rattle.js_meaning.specs.Meaning.{does, if_core, eval}
use Rattle.js_effects_quiet.specs.Quiet.{Quietly, IsValue, IsList}

abbrev pub HasBinding : Env → Text → Type 0
HasBinding env x = is_some (look env x) ≡ true

-- What is silent in an environment: a value; a name that has a binding there, or is `undefined`; `typeof` of any name; `this`, where
-- it has a binding; what runs its parts, where these are silent.
abbrev pub IsFound : Env → Kind → (below : Forest) → Type 0
IsFound env (Kind.ReferenceName x) a = HasBinding env x ⊎ (bytes_eq x (codes "undefined") ≡ true)
IsFound env (Kind.UnaryExpression unary.Typeof) a = is_one_name a ≡ true
IsFound env Kind.ThisExpression a = HasBinding env this_name
IsFound env k a = ⊥

abbrev pub IsSilent : Env → Kind → (below : Forest) → (parts : Type 0) → Type 0
IsSilent env k a parts = (is_value k ≡ true) ⊎ (IsFound env k a ⊎ ((runs_its_parts k a ≡ true) × parts))

abbrev pub SilentRow : Env → Forest → Type 0
SilentRow env nothing = Unit {0}
SilentRow env (absent rest) = SilentRow env rest
SilentRow env (node k n below rest) = IsSilent env k below (SilentRow env below) × SilentRow env rest

-- Something holds of the name of each reference that is marked as bound. What lies inside of a function isn't asked: to
-- make a function runs nothing of it.
abbrev pub HoldsAt : (Text → Type 0) → List Bool → Kind → Note → (below : Type 0) → Type 0
HoldsAt Holds bound (Kind.ReferenceName x) n below = is_marked bound n.id ≡ true → Holds x
HoldsAt Holds bound (Kind.Function f pure) n below = Unit {0}
HoldsAt Holds bound k n below = below

abbrev pub HoldsOfBound : (Text → Type 0) → List Bool → Forest → Type 0
HoldsOfBound Holds bound nothing = Unit {0}
HoldsOfBound Holds bound (absent rest) = HoldsOfBound Holds bound rest
HoldsOfBound Holds bound (node k n below rest) = HoldsAt Holds bound k n (HoldsOfBound Holds bound below) × HoldsOfBound Holds bound rest

-- The marks are true of this environment: each name that is marked as bound has a binding.
abbrev pub Known : List Bool → Env → Forest → Type 0
Known bound env t = HoldsOfBound (HasBinding env) bound t

-- How what is asked in this way completes: an expression gives a value, a list of expressions theirs; anything else is
-- asked of no expression.
abbrev pub Suits : Ask → Completion → Type 0
Suits (value w) c = IsValue c
Suits entry c = IsValue c
Suits collect c = IsList c
Suits q c = ⊥

-- a node that is quiet in this environment, whatever it is asked
abbrev pub QuietNode : Env → Meaning → Type 0
QuietNode env m = (q : Ask) → Quietly (Suits q) (m q env)

abbrev pub QuietField : Env → Option Meaning → Type 0
QuietField env None = Unit {0}
QuietField env (Some m) = QuietNode env m

abbrev pub QuietRow : Env → Parts → Type 0
QuietRow env [] = Unit {0}
QuietRow env (o ∷ ms) = QuietField env o × QuietRow env ms

-- what a node does in a row
abbrev pub meaning : Enter → Kind → Forest → Meaning
meaning E k a = if_core (is_core k) (does E k a (eval E a))
