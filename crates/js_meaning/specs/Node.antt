-- What a node is asked for, and how what lies below it is used.
use Rattle.std.specs.Prelude.{Bool, true, false, List, [], ◌∷◌, Option, Some, None}
use Rattle.js_syntax.specs.declared.node_kind.NodeKind.{NodeKind as Kind}
use Rattle.js_syntax.specs.Node.{Forest, nothing, node, absent}
use Rattle.js_syntax.specs.declared.kind.VariableKind.{VariableKind}
use Rattle.js_meaning.specs.Value.{Text, Env, Value, undef}
use Rattle.js_meaning.specs.State.{M, normal, done, unknown, seq, with_value, gives_all}

-- what an expression's value is wanted for: itself; to be called, with the receiver that it is called on; as the
-- operand of `typeof`
pub data Wanted : Type 0 where
  itself to_call for_typeof : Wanted

pub data Ask : Type 0 where
  -- a statement: to run, under these labels (8.3.1)
  run : List Text → Ask
  -- an expression: its value
  value : Wanted → Ask
  -- a target of an assignment: what it refers to
  place : Ask
  -- a declared name, or a catch clause: to take this value
  take : Value → Ask
  -- a parameter list: to take these
  take_all : List Value → Ask
  -- declarators, and each of them: to declare in this way
  declares : VariableKind → Ask
  -- a list of expressions: their values
  collect : Ask
  -- a property of an object literal: its value
  entry : Ask
  -- the cases of a switch: to run for this value; a case: whether its test gives it
  matches : Value → Ask

abbrev pub now : Ask
now = value itself

-- what a node does
abbrev pub Meaning : Type 0
Meaning = Ask → Env → M

-- what the fields of a row do
abbrev pub Parts : Type 0
Parts = List (Option Meaning)

-- a field that has to be there, and one that may be

unfoldable pub need : Parts → (Meaning → Parts → M) → M
need [] k = unknown
need (None ∷ ms) k = unknown
need (Some m ∷ ms) k = k m ms

unfoldable pub may : Parts → (Option Meaning → Parts → M) → M
may [] k = unknown
may (o ∷ ms) k = k o ms

-- one after the other, each asked the same
unfoldable pub each : Ask → Parts → Env → M
each q [] env = done normal
each q (None ∷ ms) env = unknown
each q (Some m ∷ ms) env = seq (m q env) (each q ms env)

-- the values of all, from left to right
unfoldable pub values : Ask → Parts → Env → (List Value → M) → M
values q [] env k = k []
values q (None ∷ ms) env k = unknown
values q (Some m ∷ ms) env k = with_value (m q env) (λ v. values q ms env (λ vs. k (v ∷ vs)))

abbrev pub all_values : Ask → Parts → Env → M
all_values q ms env = values q ms env (λ vs. done (gives_all vs))

-- the value of a field, or undefined where it isn't there
abbrev pub value_or_undefined : Option Meaning → Env → (Value → M) → M
value_or_undefined None env k = k undef
value_or_undefined (Some m) env k = with_value (m now env) k

abbrev pub ask_maybe : Option Meaning → Ask → Env → M
ask_maybe None q env = done normal
ask_maybe (Some m) q env = m q env

-- what the first node of a row is asked for, where it may be a statement or an expression

abbrev pub is_statement : Kind → Bool
is_statement (Kind.VariableDeclaration h) = true
is_statement (Kind.FunctionBody) = true
is_statement _ = false

abbrev pub ask_by : Bool → Ask
ask_by true = run []
ask_by false = now

abbrev pub first_ask : Forest → Ask
first_ask nothing = now
first_ask (node k n a r) = ask_by (is_statement k)
first_ask (absent r) = now
