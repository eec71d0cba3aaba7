-- An operation of which nobody takes the value becomes the operand that acts, if that is one alone, and the operation does nothing
-- itself: it converts nothing, or what is primitive by its form. A class stays where it is.
use Rattle.std.specs.Prelude.{◌≡◌, ℕ, Bool, true, false, not, ◌&&◌, ◌||◌, Option, Some, None, [], if◌then◌else◌}
use Rattle.js_syntax.specs.declared.node_kind.NodeKind.{NodeKind as Kind}
use Rattle.js_syntax.specs.declared.node_kind.NodeKind.TheVariants.{UnaryExpression as unary_expression, BinaryExpression as binary_expression, LogicalExpression as logical_expression, ConditionalExpression as conditional_expression}
use Rattle.js_syntax.specs.Node.{Forest, Tree, Note, nothing, node, alone}
use Rattle.js_effects.specs.Silence.{anywhere, may_have_effects, only_combines}
use Rattle.scope_laws.specs.Place.{Around}
use Rattle.steps.specs.Allowed.Child.{child_at}
use Rattle.steps.specs.Allowed.Unused.{is_unused_at}
use Rattle.steps.specs.Allowed.Uses.{Use, as_value, operand_of, stands_bare}

-- whether an expression may act wherever it stands: neither names nor `this` are known
abbrev pub acts : Kind → Note → (below : Forest) → Bool
acts k n below = may_have_effects [] anywhere (alone k n below)

-- and whether it may stand there itself, as an operand that is used so
abbrev pub is_needed : Use → Kind → Note → (below : Forest) → Bool
is_needed u k n below = acts k n below && stands_bare u false k below

abbrev pub index_if : Bool → ℕ → Option ℕ
index_if b i = if b then Some i else None

-- the operand acts
abbrev pub operand_needed : Use → (operand : Forest) → Option ℕ
operand_needed u (node k n a nothing) = index_if (is_needed u k n a) 0
operand_needed u t = None

-- one side acts, and the other doesn't
abbrev pub side_needed : (sides : Forest) → Option ℕ
side_needed (node k n a (node l m b nothing)) = if acts l m b then index_if (not (acts k n a) && stands_bare as_value false l b) 1 else index_if (is_needed as_value k n a) 0
side_needed t = None

-- `&&`, `||` and `??`: the left side acts, and the right one doesn't
abbrev pub left_needed : (sides : Forest) → Option ℕ
left_needed (node k n a (node l m b nothing)) = index_if (not (acts l m b) && is_needed as_value k n a) 0
left_needed t = None

-- a conditional: its condition acts, and the branches don't
abbrev pub condition_needed : (parts : Forest) → Option ℕ
condition_needed (node k n a (node l m b (node j i c nothing))) = index_if (not (acts l m b || acts j i c) && is_needed as_value k n a) 0
condition_needed t = None

-- which child is needed alone
abbrev pub needed_at : Kind → (below : Forest) → Option ℕ
needed_at (unary_expression o) below = if only_combines (unary_expression o) below then operand_needed (operand_of o) below else None
needed_at (binary_expression o) below = if only_combines (binary_expression o) below then side_needed below else None
needed_at (logical_expression o) below = left_needed below
needed_at conditional_expression below = condition_needed below
needed_at k below = None

pub data UnusedOperation (a : Around) : (x y : Tree) → Type 0 where
  one_operand_acts : (i : ℕ) (x y : Tree) → is_unused_at a ≡ true → needed_at x.kind x.below ≡ Some i → child_at i x.below ≡ Some y → UnusedOperation a x y
