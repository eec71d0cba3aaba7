-- The parts of an expression that stay where nobody takes its value.
use Rattle.std.specs.Prelude.{◌≡◌, Bool, true, false}
use Rattle.js_syntax.specs.declared.node_kind.NodeKind.{NodeKind as Kind}
use Rattle.js_syntax.specs.declared.kind.PropertyKind.{PropertyKind}
use Rattle.js_syntax.specs.declared.operator.BinaryOperator.{BinaryOperator}
use Rattle.js_syntax.specs.declared.operator.BinaryOperator.TheVariants as binary
use Rattle.js_syntax.specs.declared.value.Key.{Key}
use Rattle.js_syntax.specs.Core.{is_core_binary, is_plain_property}
use Rattle.js_syntax.specs.Node.{Note, Forest, nothing, node, absent}
use Rattle.js_meaning_near.specs.Names.{Names}
use Rattle.js_meaning_near.specs.Near.{Silent}

-- a row of expressions, and those that aren't silent
pub data Needed (st : Names) : Forest → Forest → Type 0 where
  all_needed : Needed st nothing nothing
  needed : {k : Kind} {n m : Note} {a r s : Forest} → Needed st r s → Needed st (node k n a r) (node k m a s)
  not_needed : {k : Kind} {n : Note} {a r s : Forest} → Silent st k a → Needed st r s → Needed st (node k n a r) s

-- the properties of an object literal, and those of their values that aren't silent; no key is evaluated
pub data NeededValues (st : Names) : Forest → Forest → Type 0 where
  all_needed_values : NeededValues st nothing nothing
  needed_value : {how : PropertyKind} {method : Bool} {key : Key} {k : Kind} {n m : Note} {a t r s : Forest} → is_plain_property how key ≡ true → NeededValues st r s
      → NeededValues st (node (Kind.Property how method key) n (absent (node k m a t)) r) (node k m a s)
  not_needed_value : {how : PropertyKind} {method : Bool} {key : Key} {k : Kind} {n m : Note} {a t r s : Forest} → is_plain_property how key ≡ true → Silent st k a → NeededValues st r s
      → NeededValues st (node (Kind.Property how method key) n (absent (node k m a t)) r) s

-- Operators whose values are all known, or uncovered, so that nobody can tell that they were applied: `in` and `instanceof` ask an object
-- (13.10.1), and of operators that aren't core nothing is said.
abbrev pub only_answers : BinaryOperator → Bool
only_answers binary.In = false
only_answers binary.Instanceof = false
only_answers o = is_core_binary o

-- parts as a statement: none, one, or more in a sequence
abbrev pub kind_of : Forest → Kind
kind_of nothing = Kind.EmptyStatement
kind_of ps = Kind.ExpressionStatement

abbrev pub below_of : Note → Forest → Forest
below_of n nothing = nothing
below_of n (node k m a nothing) = node k m a nothing
below_of n ps = node Kind.SequenceExpression n (node Kind.Expressions n ps nothing) nothing

-- and as an expression, where there are some
abbrev pub expression_kind : Forest → Kind
expression_kind (node k n a nothing) = k
expression_kind ps = Kind.SequenceExpression

abbrev pub expression_below : Note → Forest → Forest
expression_below n (node k m a nothing) = a
expression_below n ps = node Kind.Expressions n ps nothing

abbrev pub IsSome : Forest → Type 0
IsSome (node k n a r) = Unit {0}
IsSome _ = ⊥
