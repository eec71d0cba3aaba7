-- The rules, tried on small programs.
use Rattle.std.specs.Prelude.{ℕ, pos, List, [], ◌∷◌, Bool, true, false, Option, codes}
use Rattle.js_syntax.specs.declared.node_kind.NodeKind.{NodeKind as Kind}
use Rattle.js_syntax.specs.declared.operator.BinaryOperator.{BinaryOperator}
use Rattle.js_syntax.specs.declared.operator.LogicalOperator.{LogicalOperator}
use Rattle.js_syntax.specs.declared.operator.UnaryOperator.{UnaryOperator}
use Rattle.js_syntax.specs.declared.value.Key.TheVariants.{Name as key_name, Below as key_below}
use Rattle.js_syntax.specs.declared.value.LiteralValue.TheVariants as value
use Rattle.js_syntax.specs.declared.kind.FunctionKind.TheVariants as function_kind
use Rattle.js_syntax.specs.declared.kind.PropertyKind.TheVariants as property_kind
use Rattle.js_syntax.specs.Node.{Forest, Tree, nothing, node, absent, joined}
use Rattle.form_rules.specs.Samples.{over, leaf, listed, no, a_module, a, reads, does, function_of}
use Rattle.min_context.specs.Above.{above_of}
use Rattle.min_context.specs.Place.{Place, Spot as RowSpot, place_of, next_of, below, top, goes_on}
use Rattle.min_traverse.specs.Lawful.{or_same, or_else}
use Rattle.min_traverse.specs.Moves.{before}
use Rattle.rules.specs.Expressions.Uses.{spot_of}
use Rattle.rules.specs.Expressions.Known.{conditional_becomes, logical_becomes}
use Rattle.rules.specs.Expressions.Unused.{unused_becomes}
use Rattle.rules.specs.Expressions.Lists.{unused_list_becomes}
use Rattle.rules.specs.Expressions.Indirect.{indirect_becomes}
use Rattle.rules.specs.Expressions.OneSided.{one_sided_becomes}
use Rattle.rules.specs.Expressions.Sequences.{sequence_left}
use Rattle.rules.specs.Expressions.TwoSides.{two_sides_become}
use Rattle.rules.specs.Expressions.Objects.{object_left}
use Rattle.rules.specs.Expressions.Operations.{known_becomes}
use Rattle.rules.specs.Expressions.Ifs.{if_becomes}

-- ---- what a walk leaves that asks all rules behind each node

abbrev pub becomes_at : Place → Tree → Option Tree
becomes_at p x =
    or_else (or_else (or_else (or_else (or_else (or_else (or_else (or_else (or_else (or_else (conditional_becomes (spot_of p) x.kind x.below) (logical_becomes (spot_of p) x.kind x.below)) (unused_becomes (spot_of p) x.kind x.below))
    (unused_list_becomes (spot_of p) x.note x.kind x.below)) (indirect_becomes (spot_of p) x.note x.kind x.below)) (one_sided_becomes (spot_of p) x.note x.kind x.below)) (sequence_left (spot_of p) x.note x.kind x.below))
    (two_sides_become (spot_of p) x.note x.kind x.below)) (object_left (spot_of p) x.note x.kind x.below)) (known_becomes x.note x.kind x.below)) (if_becomes x.note x.kind x.below)

abbrev pub folded_at : Place → Tree → Tree
folded_at p x = or_same x (becomes_at p x)

abbrev pub folded : RowSpot → Forest → Forest
folded s nothing = nothing
folded s (absent rest) = absent (folded (next_of s false) rest)
folded s (node k n inside rest) = before (folded_at (place_of s (goes_on rest)) (record { kind = k; note = n; below = folded (below (place_of s (goes_on rest)) (above_of k n)) inside })) (folded (next_of s true) rest)

abbrev pub left : Forest → Forest
left t = folded top t

-- a module whose one statement does this, and what is left of it
abbrev pub doing : Forest → Forest
doing e = a_module (does e ∷ [])

abbrev pub left_of : Forest → Forest
left_of e = left (doing e)

-- ---- expressions

-- a(e)
abbrev pub uses : Forest → Forest
uses e = over (Kind.CallExpression false false) (joined (reads a) (listed Kind.Arguments (e ∷ [])))

-- a.f
abbrev pub member : Forest
member = over (Kind.MemberExpression (key_name (codes "f")) false) (joined (reads a) no)

abbrev pub logical : LogicalOperator → (left right : Forest) → Forest
logical o left right = over (Kind.LogicalExpression o) (joined left right)

abbrev pub binary : BinaryOperator → (left right : Forest) → Forest
binary o left right = over (Kind.BinaryExpression o) (joined left right)

abbrev pub unary : UnaryOperator → Forest → Forest
unary o e = over (Kind.UnaryExpression o) e

abbrev pub parenthesized : Forest → Forest
parenthesized e = over Kind.ParenthesizedExpression e

abbrev pub array : List Forest → Forest
array parts = over Kind.ArrayExpression (listed Kind.Elements parts)

abbrev pub spread : Forest → Forest
spread e = over Kind.SpreadElement e

abbrev pub sequence : List Forest → Forest
sequence parts = over Kind.SequenceExpression (listed Kind.Expressions parts)

-- `${e}`, as far as places go
abbrev pub template : Forest → Forest
template e = over Kind.TemplateLiteral (joined (listed Kind.Quasis []) (listed Kind.Expressions (e ∷ [])))

abbrev pub object : List Forest → Forest
object entries = over Kind.ObjectExpression (listed Kind.Properties entries)

-- x: e
abbrev pub keyed : List ℕ → Forest → Forest
keyed x e = over (Kind.Property property_kind.Init false (key_name x)) (joined no e)

-- [e]: v
abbrev pub computed : (e v : Forest) → Forest
computed e v = over (Kind.Property property_kind.Init false key_below) (joined e v)

-- (0, e)
abbrev pub indirect : Forest → Forest
indirect e = sequence (leaf (Kind.Literal (value.Number (pos 0))) ∷ e ∷ [])

abbrev pub empty_text : Forest
empty_text = leaf (Kind.Literal (value.Text []))

abbrev pub number : ℕ → Forest
number n = leaf (Kind.Literal (value.Number (pos n)))

abbrev pub word : List ℕ → Forest
word s = leaf (Kind.Literal (value.Text s))

abbrev pub truth : Bool → Forest
truth b = leaf (Kind.Literal (value.Boolean b))

-- function () {}
abbrev pub a_function : Forest
a_function = function_of function_kind.Expression no [] []

-- [e]() {}
abbrev pub computed_method : (e : Forest) → Forest
computed_method e = over (Kind.Property property_kind.Init true key_below) (joined e a_function)

-- while (1) body
abbrev pub endless : Forest → Forest
endless body = over Kind.WhileStatement (joined (leaf (Kind.Literal (value.Number (pos 1)))) body)
