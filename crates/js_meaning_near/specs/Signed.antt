-- Negative numbers as unary minus on their magnitudes, as ESTree has them.
use Rattle.std.specs.Prelude.{◌≡◌, suc, pos, negsuc, nat_le, true}
use Rattle.js_syntax.specs.declared.node_kind.NodeKind.{NodeKind as Kind}
use Rattle.js_syntax.specs.declared.operator.UnaryOperator.TheVariants.{UnaryNegation as unary_negation}
use Rattle.js_syntax.specs.declared.value.LiteralValue.TheVariants as value
use Rattle.js_syntax.specs.Node.{Forest, nothing, node, absent, alone, nowhere}
use Rattle.js_meaning.specs.Operator.{largest}

abbrev pub signed : Forest → Forest
signed nothing = nothing
signed (absent rest) = absent (signed rest)
signed (node (Kind.Literal (value.Number (negsuc i))) n nothing rest) = node (Kind.UnaryExpression unary_negation) n (alone (Kind.Literal (value.Number (pos (suc i)))) nowhere nothing) (signed rest)
signed (node k n below rest) = node k n (signed below) (signed rest)

-- Arithmetic covers the number; and below an object literal stands its list of properties, and no number.
abbrev pub NodeMayBeSigned : Kind → Forest → Type 0
NodeMayBeSigned (Kind.Literal (value.Number (negsuc i))) below = nat_le (suc i) largest ≡ true
NodeMayBeSigned Kind.ObjectExpression (node (Kind.Literal v) n a rest) = ⊥
NodeMayBeSigned k below = Unit {0}

abbrev pub MayBeSigned : Forest → Type 0
MayBeSigned nothing = Unit {0}
MayBeSigned (absent rest) = MayBeSigned rest
MayBeSigned (node k n below rest) = NodeMayBeSigned k below × MayBeSigned below × MayBeSigned rest
