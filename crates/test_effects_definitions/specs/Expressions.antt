-- Small expressions, and what is told of each.
use Rattle.std.specs.Prelude.{ℕ, zero, suc, ℤ, pos, negsuc, Bool, true, false, List, [], ◌∷◌, Option, Some, None, codes, if◌then◌else◌}
use Rattle.std.specs.Str.{bytes_eq}
use Rattle.js_syntax.specs.declared.node_kind.NodeKind.{NodeKind as Kind}
use Rattle.js_syntax.specs.declared.value.LiteralValue.TheVariants as literal
use Rattle.js_syntax.specs.declared.value.Key.TheVariants as key
use Rattle.js_syntax.specs.declared.kind.ClassKind.TheVariants as class_kind
use Rattle.js_syntax.specs.declared.kind.FunctionKind.TheVariants as function_kind
use Rattle.js_syntax.specs.declared.kind.PropertyKind.TheVariants as property_kind
use Rattle.js_syntax.specs.declared.operator.UnaryOperator.{UnaryOperator}
use Rattle.js_syntax.specs.declared.operator.BinaryOperator.{BinaryOperator}
use Rattle.js_syntax.specs.declared.operator.BinaryOperator.TheVariants as binary
use Rattle.js_syntax.specs.declared.operator.LogicalOperator.{LogicalOperator}
use Rattle.js_syntax.specs.declared.operator.AssignmentOperator.TheVariants as assignment
use Rattle.js_syntax.specs.Node.{Forest, nothing, node, absent, nowhere, Note}
use Rattle.js_effects.specs.declared.value.ValueType.{ValueType}
use Rattle.js_effects.specs.declared.value.ValueType.TheVariants as type
use Rattle.js_effects.specs.declared.value.ConstantValue.{ConstantValue}
use Rattle.js_effects.specs.declared.value.ConstantValue.TheVariants as constant
use Rattle.js_effects.specs.Answers.{Answers, Names, Effects, answers, bare_names, bare_effects}
use Rattle.js_effects.specs.Kinds.{type_of}
use Rattle.js_effects.specs.Values.{value_of, truth_of}
use Rattle.js_effects.specs.Effects.{acts}

-- ---- what is told

pub record Told : Type 0 where
  pub of_type : ValueType
  pub has_value : Option ConstantValue
  pub is_true : Option Bool
  pub has_effects : Bool

abbrev pub told : Answers → Forest → Told
told A t = record { of_type = type_of A t; has_value = value_of A t; is_true = truth_of A t; has_effects = acts A t }

-- that it has a value, and no effects
abbrev pub valued : ValueType → ConstantValue → Bool → Told
valued t c b = record { of_type = t; has_value = Some c; is_true = Some b; has_effects = false }

abbrev pub a_number : ℤ → Bool → Told
a_number z b = valued type.Number (constant.Number z) b

abbrev pub a_text : List ℕ → Bool → Told
a_text s b = valued type.String (constant.Text s) b

abbrev pub a_truth : Bool → Told
a_truth b = valued type.Boolean (constant.Boolean b) b

-- that it is silent, of a type, and no more
abbrev pub silent : ValueType → Told
silent t = record { of_type = t; has_value = None; is_true = None; has_effects = false }

-- that it is silent and makes an object
abbrev pub an_object : Told
an_object = record { of_type = type.Object; has_value = None; is_true = Some true; has_effects = false }

-- that it has effects, and is of a type
abbrev pub acting : ValueType → Told
acting t = record { of_type = t; has_value = None; is_true = None; has_effects = true }

-- that it has effects and makes an object
abbrev pub an_acting_object : Told
an_acting_object = record { of_type = type.Object; has_value = None; is_true = Some true; has_effects = true }

-- ---- expressions

-- a node and the row behind it
abbrev pub over : Kind → Forest → Forest → Forest
over k a r = node k nowhere a r

abbrev pub num : ℕ → Forest → Forest
num n r = over (Kind.Literal (literal.Number (pos n))) nothing r

abbrev pub txt : List ℕ → Forest → Forest
txt s r = over (Kind.Literal (literal.Text s)) nothing r

abbrev pub a_null : Forest → Forest
a_null r = over (Kind.Literal literal.Null) nothing r

abbrev pub name : List ℕ → Forest → Forest
name x r = over (Kind.ReferenceName x) nothing r

-- a name whose reference has a number
abbrev pub numbered : ℕ → Forest → Forest
numbered i r = node (Kind.ReferenceName (codes "c")) (record { span = record { start = 0; end = 0 }; id = Some i }) nothing r

abbrev pub unary : UnaryOperator → (Forest → Forest) → Forest → Forest
unary o e r = over (Kind.UnaryExpression o) (e nothing) r

abbrev pub binary_of : BinaryOperator → (left right : Forest → Forest) → Forest → Forest
binary_of o a b r = over (Kind.BinaryExpression o) (a (b nothing)) r

abbrev pub logical_of : LogicalOperator → (left right : Forest → Forest) → Forest → Forest
logical_of o a b r = over (Kind.LogicalExpression o) (a (b nothing)) r

-- f()
abbrev pub a_call : Forest → Forest
a_call r = over (Kind.CallExpression false false) (name (codes "f") (over Kind.Arguments nothing nothing)) r

abbrev pub object : Forest → Forest → Forest
object properties r = over Kind.ObjectExpression (over Kind.Properties properties nothing) r

abbrev pub array : Forest → Forest → Forest
array elements r = over Kind.ArrayExpression (over Kind.Elements elements nothing) r

abbrev pub spread : (Forest → Forest) → Forest → Forest
spread e r = over Kind.SpreadElement (e nothing) r

-- [key]: 1
abbrev pub computed : (Forest → Forest) → Forest → Forest
computed e r = over (Kind.Property property_kind.Init false key.Below) (e (num 1 nothing)) r

abbrev pub sequence : (first second : Forest → Forest) → Forest → Forest
sequence a b r = over Kind.SequenceExpression (over Kind.Expressions (a (b nothing)) nothing) r

abbrev pub conditional : (test a b : Forest → Forest) → Forest → Forest
conditional t a b r = over Kind.ConditionalExpression (t (a (b nothing))) r

-- a template with one substitution
abbrev pub template : (Forest → Forest) → Forest → Forest
template e r = over Kind.TemplateLiteral (over Kind.Quasis nothing (over Kind.Expressions (e nothing) nothing)) r

abbrev pub arrow : Forest → Forest
arrow r = over (Kind.Function function_kind.Arrow false) (absent (over Kind.Parameters nothing (num 1 nothing))) r

-- class extends heritage { members }
abbrev pub a_class : (heritage : Forest → Forest) → (members : Forest) → Forest → Forest
a_class h m r = over (Kind.Class class_kind.Expression) (absent (h (over Kind.ClassBody (over Kind.Members m nothing) nothing))) r

abbrev pub field : (of_class : Bool) → (value : Forest) → Forest
field of_class v = over (Kind.PropertyDefinition of_class (key.Name (codes "x"))) (absent v) nothing

abbrev pub static_block : (statements : Forest) → Forest
static_block s = over Kind.StaticBlock (over Kind.Statements s nothing) nothing

abbrev pub member : (Forest → Forest) → (key : List ℕ) → Forest → Forest
member o k r = over (Kind.MemberExpression (key.Name k) false) (o (absent nothing)) r

abbrev pub assigned : (target value : Forest → Forest) → Forest → Forest
assigned t v r = over (Kind.AssignmentExpression assignment.Assign) (t (v nothing)) r

-- ---- contexts

-- the name `g` and `undefined` are global; reference 0 is 5 wherever it is read, and reference 1 "a"
abbrev is_global_name : Kind → Bool
is_global_name (Kind.ReferenceName x) = if bytes_eq x (codes "g") then true else bytes_eq x (codes "undefined")
is_global_name k = false

abbrev constant_of : ℕ → Option ConstantValue
constant_of zero = Some (constant.Number (pos 5))
constant_of (suc zero) = Some (constant.Text (codes "a"))
constant_of i = None

abbrev type_of_constant : ℕ → Option ValueType
type_of_constant zero = Some type.Number
type_of_constant (suc zero) = Some type.String
type_of_constant i = None

abbrev pub some_names : Names
some_names = record { is_global = λ k n. is_global_name k; constant = constant_of; constant_type = type_of_constant }

abbrev pub some_answers : Answers
some_answers = answers some_names bare_effects

-- neither properties nor unknown globals have effects
abbrev pub lenient : Effects
lenient = record { annotations = false; is_pure_function = λ t. false; reads_act = false; writes_act = false; unknown_globals_act = false; this_is_initialised = true; inside_with = false }

abbrev pub lenient_answers : Answers
lenient_answers = answers some_names lenient

-- inside of `with`, before `super(..)`
abbrev pub strange : Effects
strange = record { annotations = false; is_pure_function = λ t. false; reads_act = true; writes_act = true; unknown_globals_act = true; this_is_initialised = false; inside_with = true }

abbrev pub strange_answers : Answers
strange_answers = answers some_names strange
