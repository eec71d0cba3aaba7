-- Operations of which the value is known.
use Rattle.std.specs.Prelude.{ℕ, Option, None, Some}
use Rattle.js_syntax.specs.declared.node_kind.NodeKind.{NodeKind as Kind}
use Rattle.js_syntax.specs.declared.node_kind.NodeKind.TheVariants.{Literal as literal}
use Rattle.js_syntax.specs.declared.value.LiteralValue.{LiteralValue}
use Rattle.js_syntax.specs.Node.{Forest, Tree, Note, nothing}
use Rattle.min_traverse.specs.Lawful.{Rule, or_else}
use Rattle.steps.specs.Allowed.KnownOperation.{known_literal, known_negative, less_than_zero}
use Rattle.rules.specs.Expressions.Lists.{new_note}

-- a literal that stands where the old node stood
abbrev pub literal_there : (note : Note) → Option LiteralValue → Option Tree
literal_there n None = None
literal_there n (Some v) = Some (record { kind = literal v; note = new_note n; below = nothing })

-- unary minus on a literal, at the same place in the source
abbrev pub minus_there : (note : Note) → (below_minus_one : Option ℕ) → Option Tree
minus_there n None = None
minus_there n (Some i) = Some (less_than_zero (new_note n) (new_note n) i)

-- whatever the value is used for
abbrev pub known_becomes : (note : Note) → Kind → (parts : Forest) → Option Tree
known_becomes n k parts = or_else (literal_there n (known_literal k n parts)) (minus_there n (known_negative k n parts))

-- ---- as rules of a walk

abbrev pub fold_to_literal : Rule
fold_to_literal c x = literal_there x.note (known_literal x.kind x.note x.below)

abbrev pub fold_to_negative : Rule
fold_to_negative c x = minus_there x.note (known_negative x.kind x.note x.below)

abbrev pub fold_known : Rule
fold_known c x = known_becomes x.note x.kind x.below
