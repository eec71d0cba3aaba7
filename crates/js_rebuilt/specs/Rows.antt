-- Expressions that the definition is tried on.
use Rattle.std.specs.Prelude.{List, false, codes}
use Rattle.js_syntax.specs.declared.node_kind.NodeKind.{NodeKind as Kind}
use Rattle.js_syntax.specs.declared.operator.UnaryOperator.TheVariants as unary
use Rattle.js_syntax.specs.declared.operator.BinaryOperator.TheVariants as binary
use Rattle.js_syntax.specs.declared.operator.LogicalOperator.TheVariants as logical
use Rattle.js_syntax.specs.declared.value.Key.TheVariants.{Name as key_name}
use Rattle.js_syntax.specs.Node.{Forest, joined}
use Rattle.form_rules.specs.Samples.{over, listed, no, a, reads, calls}

-- a(), b()
abbrev pub call_of_a : Forest
call_of_a = calls (reads a)

abbrev pub call_of_b : Forest
call_of_b = calls (reads (codes "b"))

-- a.b
abbrev pub member : Forest
member = over (Kind.MemberExpression (key_name (codes "b")) false) (joined (reads a) no)

-- [x, ..]
abbrev pub array : List Forest → Forest
array xs = over Kind.ArrayExpression (listed Kind.Elements xs)

-- (x, ..)
abbrev pub sequence : List Forest → Forest
sequence xs = over Kind.SequenceExpression (listed Kind.Expressions xs)

-- x === y
abbrev pub equals : (x y : Forest) → Forest
equals x y = over (Kind.BinaryExpression binary.StrictEquality) (joined x y)

-- x && y
abbrev pub and : (x y : Forest) → Forest
and x y = over (Kind.LogicalExpression logical.And) (joined x y)

-- !x
abbrev pub negated : Forest → Forest
negated x = over (Kind.UnaryExpression unary.LogicalNot) x

-- test ? consequent : alternate
abbrev pub conditional : (test consequent alternate : Forest) → Forest
conditional test consequent alternate = over Kind.ConditionalExpression (joined test (joined consequent alternate))
