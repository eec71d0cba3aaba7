-- In which scope a child's context is, and whether its code is strict.
use Rattle.std.proofs.Common.{◌≡◌, ◌==◌, ℕ, Bool, true, false, not, ◌&&◌, if◌then◌else◌, Option, Some, refl}
use Rattle.js_syntax.specs.declared.node_kind.NodeKind.{NodeKind as Kind}
use Rattle.js_syntax.specs.declared.node_kind.NodeKind.TheVariants as kind
use Rattle.js_syntax.specs.declared.kind.FunctionKind.{FunctionKind}
use Rattle.js_syntax.specs.declared.kind.FunctionKind.TheVariants as function_kind
use Rattle.js_syntax.specs.declared.kind.ClassKind.{ClassKind}
use Rattle.js_syntax.specs.declared.kind.ClassKind.TheVariants as class_kind
use Rattle.js_syntax.specs.declared.kind.MethodKind.{MethodKind}
use Rattle.js_syntax.specs.declared.kind.MethodKind.TheVariants as method_kind
use Rattle.js_syntax.specs.declared.kind.VariableKind.TheVariants as variable
use Rattle.js_syntax.specs.Node.{Forest}
use Rattle.scope_rules.specs.Context.{Context, has_second, in_block, at_function_name, at_class_name, below_it, of_method, beside, inside}
use Rattle.steps.specs.Marked.Flags.{is_within}
use Rattle.rules.proofs.Told.Standing.{strict_code}

abbrev pub looks : Context → Option ℕ × Bool
looks c = (c.scope, c.strict)

same_if : (b : Bool) (c d e : Context) → looks c ≡ looks e → looks d ≡ looks e → looks (if b then c else d) ≡ looks e
same_if true c d e f g = f
same_if false c d e f g = g

method_looks : (c : Context) (how : MethodKind) → looks (of_method c how) ≡ looks c
method_looks c method_kind.Constructor = refl
method_looks c how = refl

beside_looks : (c : Context) (k : Kind) (at : ℕ) → looks (beside c k at) ≡ looks c
beside_looks c (kind.MethodDefinition how is_static key) at = same_if (at == 1) (of_method c how) (below_it c) c (method_looks c how) refl
beside_looks c (kind.VariableDeclaration variable.Var) at = refl
beside_looks c (kind.VariableDeclaration variable.Let) at = refl
beside_looks c (kind.VariableDeclaration variable.Const) at = refl
beside_looks c (kind.AssignmentExpression operator) at = same_if (at == 0) _ (below_it c) c refl refl
beside_looks c (kind.MemberExpression key optional) at = same_if (at == 0) _ (below_it c) c refl refl
beside_looks c (kind.TargetProperty key) at = same_if (at == 1) _ (below_it c) c refl refl
beside_looks c kind.TargetDefault at = same_if (at == 0) _ (below_it c) c refl refl
beside_looks c k at = refl

function_name_looks : (c : Context) (next : ℕ) (how : FunctionKind) (pure : Bool) → looks (at_function_name c next how pure) ≡ looks c
function_name_looks c next function_kind.Declaration pure = refl
function_name_looks c next function_kind.Expression pure = refl
function_name_looks c next function_kind.Arrow pure = refl

class_name_looks : (c : Context) (next : ℕ) (how : ClassKind) → looks (at_class_name c next how) ≡ looks c
class_name_looks c next class_kind.Declaration = refl
class_name_looks c next class_kind.Expression = refl

function_looks : (first second : Bool) (x y z : Context) (v w : Option ℕ × Bool) → looks x ≡ w → looks y ≡ v → looks z ≡ v → looks (if first then x else if second then y else z) ≡ (if not first then v else w)
function_looks true second x y z v w f g h = f
function_looks false true x y z v w f g h = g
function_looks false false x y z v w f g h = h

class_looks : (first : Bool) (x z : Context) (v w : Option ℕ × Bool) → looks x ≡ w → looks z ≡ v → looks (if first then x else z) ≡ (if not first then v else w)
class_looks true x z v w f h = f
class_looks false x z v w f h = h

part_looks : (within : Bool) (z x : Context) (v w : Option ℕ × Bool) → looks z ≡ v → looks x ≡ w → looks (if within then z else x) ≡ (if within then v else w)
part_looks true z x v w h f = h
part_looks false z x v w h f = f

pub inside_looks : (c : Context) (next : ℕ) (k : Kind) (below : Forest) (at : ℕ) → looks (inside c next k below at) ≡ (if is_within k below at then (Some next, strict_code c.strict k below) else looks c)
inside_looks c next (kind.Program source) below at = refl
inside_looks c next (kind.Function how pure) below at = function_looks (at == 0) (at == 1) (at_function_name c next how pure) _ _ (Some next, strict_code c.strict (kind.Function how pure) below) (looks c) (function_name_looks c next how pure) refl refl
inside_looks c next (kind.Class how) below at = class_looks (at == 0) (at_class_name c next how) (in_block c next true) (Some next, true) (looks c) (class_name_looks c next how) refl
inside_looks c next kind.StaticBlock below at = refl
inside_looks c next (kind.PropertyDefinition is_static key) below at = part_looks (has_second below && at == 1) (in_block c next c.strict) (below_it c) (Some next, c.strict) (looks c) refl refl
inside_looks c next kind.BlockStatement below at = refl
inside_looks c next kind.SwitchStatement below at = part_looks (at == 1) (in_block c next c.strict) (below_it c) (Some next, c.strict) (looks c) refl refl
inside_looks c next kind.WithStatement below at = part_looks (at == 1) (in_block c next c.strict) (below_it c) (Some next, c.strict) (looks c) refl refl
inside_looks c next kind.CatchClause below at = same_if (at == 0) _ _ (in_block c next c.strict) refl refl
inside_looks c next kind.ForStatement below at = refl
inside_looks c next kind.ForInStatement below at = same_if (at == 0) _ _ (in_block c next c.strict) refl refl
inside_looks c next kind.ForOfStatement below at = same_if (at == 0) _ _ (in_block c next c.strict) refl refl
inside_looks c next k below at = beside_looks c k at
