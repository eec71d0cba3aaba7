-- Small expressions that are silent, and others that aren't; none of their names has a binding.
use Rattle.std.specs.Prelude.{◌≡◌, List, [], ◌∷◌, Bool, codes}
use Rattle.js_syntax.specs.declared.node_kind.NodeKind.{NodeKind as Kind}
use Rattle.js_syntax.specs.declared.operator.UnaryOperator.{UnaryOperator}
use Rattle.js_syntax.specs.declared.operator.UnaryOperator.TheVariants as unary
use Rattle.js_syntax.specs.declared.operator.BinaryOperator.TheVariants as binary
use Rattle.js_syntax.specs.Node.{Forest}
use Rattle.js_meaning.specs.Samples as sample
use Rattle.js_effects.specs.Answers.{Answers, answers, bare_effects}
use Rattle.js_effects.specs.Effects.{any_acts}
use Rattle.js_effects_quiet.specs.Acts.{marked_names}

-- no name has a binding, and `this` may be read
abbrev pub unbound : Answers
unbound = answers (marked_names []) bare_effects

abbrev pub Are : Bool → List Forest → Type 0
Are b [] = Unit {0}
Are b (t ∷ ts) = (any_acts unbound t ≡ b) × Are b ts

abbrev pub unary_of : UnaryOperator → Forest → Forest
unary_of o e = sample.over (Kind.UnaryExpression o) e

abbrev pub grouped : Forest → Forest
grouped e = sample.over Kind.ParenthesizedExpression e

abbrev pub x : Forest
x = sample.name (codes "x")

abbrev pub one : Forest
one = sample.number_of 1

abbrev pub an_array : List Forest → Forest
an_array es = sample.over Kind.ArrayExpression (sample.listed Kind.Elements es)

-- this; typeof x; typeof (x); 1 < "a"; undefined == 1; -1; 1 - (1 + 1); "a" + 1; [1, !this] === this; typeof -"a"
abbrev pub silent : List Forest
silent =
    sample.leaf Kind.ThisExpression
    ∷ unary_of unary.Typeof x
    ∷ unary_of unary.Typeof (grouped x)
    ∷ sample.binary_of binary.LessThan one (sample.text_of (codes "a"))
    ∷ sample.binary_of binary.Equality (sample.name (codes "undefined")) one
    ∷ unary_of unary.UnaryNegation one
    ∷ sample.binary_of binary.Subtraction one (grouped (sample.binary_of binary.Addition one one))
    ∷ sample.binary_of binary.Addition (sample.text_of (codes "a")) one
    ∷ sample.binary_of binary.StrictEquality (an_array (one ∷ unary_of unary.LogicalNot (sample.leaf Kind.ThisExpression) ∷ [])) (sample.leaf Kind.ThisExpression)
    ∷ unary_of unary.Typeof (unary_of unary.UnaryNegation (sample.text_of (codes "a")))
    ∷ []

-- x; x(); -x; 1 + x; -[]; -this; x in this; 1 instanceof 1; typeof x(); delete 1
abbrev pub acting : List Forest
acting =
    x
    ∷ sample.call x []
    ∷ unary_of unary.UnaryNegation x
    ∷ sample.binary_of binary.Addition one x
    ∷ unary_of unary.UnaryNegation (an_array [])
    ∷ unary_of unary.UnaryNegation (sample.leaf Kind.ThisExpression)
    ∷ sample.binary_of binary.In x (sample.leaf Kind.ThisExpression)
    ∷ sample.binary_of binary.Instanceof one one
    ∷ unary_of unary.Typeof (sample.call x [])
    ∷ unary_of unary.Delete one
    ∷ []
