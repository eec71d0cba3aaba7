-- A tree weighs at most six for each of its nodes.
use Rattle.std.proofs.Common.{◌≤◌, ◌*◌, ℕ, List, arith}
use Rattle.js_syntax.specs.Core.{value_weight, text_weight}
use Rattle.js_syntax.specs.declared.node_kind.NodeKind.{NodeKind as Kind}
use Rattle.js_syntax.specs.declared.node_kind.NodeKind.TheVariants as kind
use Rattle.js_syntax.specs.declared.value.LiteralValue.{LiteralValue as Value}
use Rattle.js_syntax.specs.declared.value.LiteralValue.TheVariants as value
use Rattle.js_syntax.specs.declared.kind.FunctionKind.{FunctionKind}
use Rattle.js_syntax.specs.declared.kind.FunctionKind.TheVariants as function_kind
use Rattle.js_syntax.specs.declared.kind.ClassKind.{ClassKind}
use Rattle.js_syntax.specs.declared.kind.ClassKind.TheVariants as class_kind
use Rattle.js_syntax.specs.Facts.{weight}
use Rattle.js_syntax.specs.Node.{Forest, nothing, node, absent, total}
use Rattle.js_tree.specs.Count.{one_each, node_count}
use Rattle.std.specs.Prelude.{zero, suc, pos, negsuc, [], ◌∷◌, Bool, Some, None}

value_weighs : (v : Value) → value_weight v ≤ 4
value_weighs (value.Number (pos zero)) = Prim.omega arith
value_weighs (value.Number (pos (suc zero))) = Prim.omega arith
value_weighs (value.Number (pos (suc (suc n)))) = Prim.omega arith
value_weighs (value.Number (negsuc n)) = Prim.omega arith
value_weighs (value.Text []) = Prim.omega arith
value_weighs (value.Text (x ∷ xs)) = Prim.omega arith
value_weighs v = Prim.omega arith

text_weighs : (s : List ℕ) → text_weight s ≤ 4
text_weighs [] = Prim.omega arith
text_weighs (x ∷ xs) = Prim.omega arith

function_weighs : (how : FunctionKind) (pure : Bool) → weight (kind.Function how pure) ≤ 6
function_weighs function_kind.Declaration pure = Prim.omega arith
function_weighs function_kind.Expression pure = Prim.omega arith
function_weighs function_kind.Arrow pure = Prim.omega arith

class_weighs : (how : ClassKind) → weight (kind.Class how) ≤ 6
class_weighs class_kind.Declaration = Prim.omega arith
class_weighs class_kind.Expression = Prim.omega arith

node_weighs : (k : Kind) → weight k ≤ 6 * one_each k
node_weighs (kind.Literal v) = Prim.omega (arith, value_weighs v)
node_weighs (kind.TemplateElement t tail) = Prim.omega (arith, text_weighs t.raw)
node_weighs (kind.Function how pure) = Prim.omega (arith, function_weighs how pure)
node_weighs (kind.Class how) = Prim.omega (arith, class_weighs how)
node_weighs (kind.ExportNamedDeclaration None) = Prim.omega arith
node_weighs (kind.ExportNamedDeclaration (Some source)) = Prim.omega arith
node_weighs k = Prim.omega arith

pub weighs : (t : Forest) → total weight t ≤ 6 * node_count t
weighs nothing = Prim.omega arith
weighs (absent rest) = weighs rest
weighs (node k n below rest) = Prim.omega (arith, node_weighs k, weighs below, weighs rest)
