-- What is left of a template of which nobody takes the value, by its parts.
use Rattle.std.specs.Prelude.{Bool, false, ◌&&◌}
use Rattle.js_syntax.specs.declared.node_kind.NodeKind.{NodeKind as Kind}
use Rattle.js_syntax.specs.declared.node_kind.NodeKind.TheVariants.{TemplateLiteral as template_literal, Quasis as quasis, Expressions as expressions}
use Rattle.js_syntax.specs.declared.scalar.Span.{Span}
use Rattle.js_syntax.specs.Node.{Forest, nothing, node}
use Rattle.js_effects.specs.Silence.{only_combines}
use Rattle.steps.specs.Allowed.UnusedList.{acting}
use Rattle.rules.specs.Expressions.Uses.{Spot}
use Rattle.min_expressions.specs.Lists.{are_one}

-- whether what acts of the substitutions is one expression, where these stand behind texts
abbrev pub substitutions_go : (texts list : Kind) → (parts : Forest) → Bool
substitutions_go quasis expressions parts = are_one (acting parts)
substitutions_go texts list parts = false

abbrev pub row_goes : (below : Forest) → Bool
row_goes (node k h texts (node l i parts nothing)) = substitutions_go k l parts
row_goes t = false

-- whether a template becomes what acts of its substitutions
abbrev pub template_goes : Kind → (below : Forest) → Bool
template_goes template_literal below = only_combines template_literal below && row_goes below
template_goes k below = false

-- where nobody takes the value
abbrev pub unused_template_goes : Spot → Kind → (below : Forest) → Bool
unused_template_goes s k below = s.is_unused && template_goes k below

-- where the first node of a row stands, if there is one
abbrev pub first_span : Span → Forest → Span
first_span d (node k n b rest) = n.span
first_span d t = d
