-- An operation of which the value is known, and which does nothing but give it, becomes a literal of it, or unary minus on one where it is a
-- negative number (ECMA-262 13.5 to 13.11).
use Rattle.std.specs.Prelude.{◌≡◌, ℕ, suc, pos, negsuc, Bool, true, false, not, ◌&&◌, ◌||◌, Option, Some, None, if◌then◌else◌}
use Rattle.js_syntax.specs.declared.node_kind.NodeKind.{NodeKind as Kind}
use Rattle.js_syntax.specs.declared.node_kind.NodeKind.TheVariants.{Literal as literal, UnaryExpression as unary_expression, BinaryExpression as binary_expression}
use Rattle.js_syntax.specs.declared.operator.UnaryOperator.TheVariants.{UnaryNegation}
use Rattle.js_syntax.specs.declared.value.LiteralValue.{LiteralValue}
use Rattle.js_syntax.specs.declared.value.LiteralValue.TheVariants as value
use Rattle.js_syntax.specs.Node.{Forest, Tree, Note, nothing, node, alone}
use Rattle.js_effects.specs.declared.value.ConstantValue.{ConstantValue}
use Rattle.js_effects.specs.declared.value.ConstantValue.TheVariants.{Number, Text, Boolean, Null, Undefined}
-- the value of an expression, as far as its form tells
use Rattle.js_effects.specs.Answers.{bare_answers}
use Rattle.js_effects.specs.Values.{value_of}
use Rattle.js_tree.specs.Walk.{is_list}
use Rattle.scope_laws.specs.Place.{Around}
use Rattle.steps.specs.Allowed.UnusedOperation.{acts}

-- as a literal: a negative number has none that is written as it is (12.9.3), and neither has undefined
abbrev pub as_literal : Option ConstantValue → Option LiteralValue
as_literal (Some (Number (pos n))) = Some (value.Number (pos n))
as_literal (Some (Number (negsuc n))) = None
as_literal (Some (Text s)) = Some (value.Text s)
as_literal (Some (Boolean b)) = Some (value.Boolean b)
as_literal (Some Null) = Some value.Null
as_literal (Some Undefined) = None
as_literal None = None

-- an operand weighs something, if it is no list
abbrev pub has_operand : (below : Forest) → Bool
has_operand (node k n a rest) = not (is_list k)
has_operand below = false

-- of an operation that doesn't act, wherever it stands: nothing is known of names there
abbrev pub known_literal : Kind → Note → (below : Forest) → Option LiteralValue
known_literal (unary_expression o) n below = if acts (unary_expression o) n below || not (has_operand below) then None else as_literal (value_of bare_answers (alone (unary_expression o) n below))
known_literal (binary_expression o) n below = if acts (binary_expression o) n below then None else as_literal (value_of bare_answers (alone (binary_expression o) n below))
known_literal k n below = None

-- of a negative number how far it lies below -1
abbrev pub as_negative : Option ConstantValue → Option ℕ
as_negative (Some (Number (negsuc n))) = Some n
as_negative v = None

abbrev pub is_literal : (operand : Forest) → Bool
is_literal (node (literal v) n a rest) = true
is_literal operand = false

-- an operator before a literal stays, since with it a negative number is written
abbrev pub gives_negative : Kind → (below : Forest) → Bool
gives_negative (unary_expression o) below = has_operand below && not (is_literal below)
gives_negative (binary_expression o) below = has_operand below
gives_negative k below = false

-- the same of an operation that gives a negative number
abbrev pub known_negative : Kind → Note → (below : Forest) → Option ℕ
known_negative k n below = if acts k n below || not (gives_negative k below) then None else as_negative (value_of bare_answers (alone k n below))

-- as it is written
abbrev pub less_than_zero : (i j : Note) → (below_minus_one : ℕ) → Tree
less_than_zero i j n = record { kind = unary_expression UnaryNegation; note = i; below = alone (literal (value.Number (pos (suc n)))) j nothing }

pub data KnownOperation (a : Around) : (x y : Tree) → Type 0 where
  value_is_known : (i : Note) (v : LiteralValue) (x : Tree) → known_literal x.kind x.note x.below ≡ Some v → KnownOperation a x (record { kind = literal v; note = i; below = nothing })
  negative_is_known : (i j : Note) (n : ℕ) (x : Tree) → known_negative x.kind x.note x.below ≡ Some n → KnownOperation a x (less_than_zero i j n)
