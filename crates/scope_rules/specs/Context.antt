-- What stands around a node, as far as names ask.
use Rattle.std.specs.Prelude.{ℕ, ◌+◌, List, [], ◌∷◌, Bool, ◌&&◌, true, false, ◌||◌, ◌==◌, Option, Some, None, if◌then◌else◌}
use Rattle.js_syntax.specs.declared.node_kind.NodeKind.{NodeKind as Kind}
use Rattle.js_syntax.specs.declared.node_kind.NodeKind.TheVariants.{Program as program, Function as function, Class as class, MethodDefinition as method_definition, PropertyDefinition as property_definition, StaticBlock as static_block, BlockStatement as block_statement, WithStatement as with_statement, SwitchStatement as switch_statement, CatchClause as catch_clause, ForStatement as for_statement, ForInStatement as for_in_statement, ForOfStatement as for_of_statement, VariableDeclaration as variable_declaration, ImportDeclaration as import_declaration, AssignmentExpression as assignment_expression, UpdateExpression as update_expression, MemberExpression as member_expression, ParenthesizedExpression as parenthesized_expression, TargetArray as target_array, TargetObject as target_object, TargetProperty as target_property, TargetDefault as target_default, TargetRest as target_rest, Elements as elements, Properties as properties}
use Rattle.js_syntax.specs.Node.{Forest, node}
use Rattle.js_syntax.specs.declared.kind.FunctionKind.{FunctionKind}
use Rattle.js_syntax.specs.declared.kind.FunctionKind.TheVariants as function_kind
use Rattle.js_syntax.specs.declared.kind.ClassKind.{ClassKind}
use Rattle.js_syntax.specs.declared.kind.ClassKind.TheVariants as class_kind
use Rattle.js_syntax.specs.declared.kind.MethodKind.{MethodKind}
use Rattle.js_syntax.specs.declared.kind.MethodKind.TheVariants as method_kind
use Rattle.js_syntax.specs.declared.kind.VariableKind.{VariableKind}
use Rattle.js_syntax.specs.declared.kind.VariableKind.TheVariants as variable_kind
use Rattle.js_syntax.specs.declared.operator.AssignmentOperator.{AssignmentOperator}
use Rattle.js_syntax.specs.declared.operator.AssignmentOperator.TheVariants as assignment
use Rattle.form_rules.specs.Context.{is_module, is_strict_list, is_strict_function, behind_first}
use Rattle.scope_rules.specs.declared.layer.Layer.{Layer}
use Rattle.scope_rules.specs.declared.layer.Part.TheVariants.{OwnName as own_name, Parameters as parameters, Body as body}
use Rattle.scope_rules.specs.declared.layer.Role.{Role}
use Rattle.scope_rules.specs.declared.layer.Role.TheVariants.{Read as read, Write as write, ReadAndWrite as read_and_write, Object as object}
use Rattle.scope_rules.specs.SymbolFlags as symbol_flag

-- what a binding name declares: where, as which bits of a symbol's flags, and whether as a function that is marked to
-- have no side effects
pub record Declaring : Type 0 where
  pub layer : Layer
  pub flags : ℕ
  pub is_pure : Bool

pub record Context : Type 0 where
  -- the names around, innermost first
  pub layers : List Layer
  -- the innermost scope
  pub scope : Option ℕ
  -- where `var` declares, and where `let`, classes and functions do
  pub variables : Layer
  pub block : Layer
  pub declaring : Declaring
  pub role : Role
  pub strict : Bool
  -- whether the function that the node may be is a class's constructor
  pub constructs : Bool

-- ---- scopes (ECMA-262 8.2.1, 9.1, 10.2.11, 14, 15)

abbrev pub is_there : Forest → Bool
is_there (node k n below rest) = true
is_there t = false

-- a field's value is the second of its nodes
abbrev pub has_second : Forest → Bool
has_second below = is_there (behind_first below)

-- the nodes that make a scope
abbrev pub opens : Kind → (below : Forest) → Bool
opens (program source) below = true
opens (function how pure) below = true
opens (class how) below = true
opens static_block below = true
opens block_statement below = true
opens for_statement below = true
opens for_in_statement below = true
opens for_of_statement below = true
opens switch_statement below = true
opens catch_clause below = true
opens with_statement below = true
opens (property_definition is_static key) below = has_second below
opens k below = false

-- whether the code in it is strict (11.2.2)
abbrev pub strict_in : Context → Kind → (below : Forest) → Bool
strict_in c (program source) below = is_module source || is_strict_list below
strict_in c (function how pure) below = c.strict || is_strict_function below
strict_in c (class how) below = true
strict_in c k below = c.strict

-- ---- layers

-- the same place in another scope, whose names are in these layers
abbrev pub entered : Context → (scope : ℕ) → (variables block : Layer) → List Layer → (strict : Bool) → Context
entered c scope variables block layers strict =
    record { layers = layers; scope = Some scope; variables = variables; block = block; declaring = c.declaring; role = read; strict = strict; constructs = false }

abbrev pub body_of : ℕ → Layer
body_of scope = record { scope = scope; part = body }

abbrev pub parameters_of : ℕ → Layer
parameters_of scope = record { scope = scope; part = parameters }

abbrev pub own_name_of : ℕ → Layer
own_name_of scope = record { scope = scope; part = own_name }

-- a scope of a body alone, in which `var` declares
abbrev pub in_body : Context → (scope : ℕ) → (strict : Bool) → Context
in_body c scope strict = entered c scope (body_of scope) (body_of scope) (body_of scope ∷ c.layers) strict

-- one through which `var` passes
abbrev pub in_block : Context → (scope : ℕ) → (strict : Bool) → Context
in_block c scope strict = entered c scope c.variables (body_of scope) (body_of scope ∷ c.layers) strict

-- those of a function before its body: an expression's own name lies around its parameters
abbrev pub layers_of_parameters : FunctionKind → (scope : ℕ) → List Layer → List Layer
layers_of_parameters function_kind.Expression scope outer = parameters_of scope ∷ own_name_of scope ∷ outer
layers_of_parameters how scope outer = parameters_of scope ∷ outer

abbrev pub layers_in : Kind → (scope : ℕ) → List Layer → List Layer
layers_in (function how pure) scope outer = layers_of_parameters how scope outer
layers_in k scope outer = body_of scope ∷ outer

-- ---- declarations

abbrev pub declares : Context → Layer → (flags : ℕ) → (is_pure : Bool) → Context
declares c layer flags is_pure =
    record { layers = c.layers; scope = c.scope; variables = c.variables; block = c.block; declaring = record { layer = layer; flags = flags; is_pure = is_pure }; role = read; strict = c.strict; constructs = false }

abbrev pub in_variables : Context → VariableKind → Context
in_variables c variable_kind.Var = declares c c.variables symbol_flag.function_scoped_variable false
in_variables c variable_kind.Let = declares c c.block symbol_flag.block_scoped_variable false
in_variables c variable_kind.Const = declares c c.block (symbol_flag.block_scoped_variable + symbol_flag.const_variable) false

-- a declaration's name lies in the scope around it, and an expression's in its own
abbrev pub at_function_name : Context → (scope : ℕ) → FunctionKind → (is_pure : Bool) → Context
at_function_name c scope function_kind.Declaration is_pure = declares c c.block symbol_flag.function is_pure
at_function_name c scope how is_pure = declares c (own_name_of scope) symbol_flag.function false

abbrev pub at_class_name : Context → (scope : ℕ) → ClassKind → Context
at_class_name c scope class_kind.Declaration = declares c c.block symbol_flag.class false
at_class_name c scope class_kind.Expression = declares c (body_of scope) symbol_flag.class false

abbrev pub at_parameters : Context → (scope : ℕ) → FunctionKind → (strict : Bool) → Context
at_parameters c scope how strict =
    declares (entered c scope (parameters_of scope) (parameters_of scope) (layers_of_parameters how scope c.layers) strict) (parameters_of scope) symbol_flag.function_scoped_variable false

abbrev pub in_function : Context → (scope : ℕ) → FunctionKind → (strict : Bool) → Context
in_function c scope how strict = entered c scope (body_of scope) (body_of scope) (body_of scope ∷ layers_of_parameters how scope c.layers) strict

-- ---- how a name is used

abbrev pub below_it : Context → Context
below_it c =
    record { layers = c.layers; scope = c.scope; variables = c.variables; block = c.block; declaring = c.declaring; role = read; strict = c.strict; constructs = false }

abbrev pub used : Role → Context → Context
used role c =
    record { layers = c.layers; scope = c.scope; variables = c.variables; block = c.block; declaring = c.declaring; role = role; strict = c.strict; constructs = false }

abbrev pub as_constructor : Context → Context
as_constructor c =
    record { layers = c.layers; scope = c.scope; variables = c.variables; block = c.block; declaring = c.declaring; role = read; strict = c.strict; constructs = true }

abbrev pub role_of : AssignmentOperator → Role
role_of assignment.Assign = write
role_of operator = read_and_write

-- of what a member is taken, where the member is used so
abbrev pub role_of_object : Role → Role
role_of_object write = object
role_of_object read_and_write = object
role_of_object role = read

abbrev pub of_method : Context → MethodKind → Context
of_method c method_kind.Constructor = as_constructor c
of_method c how = below_it c

-- The context of a child below a node that makes no scope.
abbrev pub beside : Context → Kind → (at : ℕ) → Context
beside c (method_definition how is_static key) at = if at == 1 then of_method c how else below_it c
beside c (variable_declaration how) at = in_variables c how
beside c (import_declaration source) at = declares c c.block symbol_flag.import false
beside c (assignment_expression operator) at = if at == 0 then used (role_of operator) c else below_it c
beside c (update_expression operator prefix) at = used read_and_write c
beside c (member_expression key optional) at = if at == 0 then used (role_of_object c.role) c else below_it c
beside c parenthesized_expression at = used c.role c
beside c elements at = used c.role c
beside c properties at = used c.role c
beside c target_array at = used write c
beside c target_object at = used write c
beside c (target_property key) at = if at == 1 then used write c else below_it c
beside c target_default at = if at == 0 then used write c else below_it c
beside c target_rest at = used write c
beside c k at = below_it c

-- a function's name, its parameters, and its body
abbrev pub of_function : Context → (scope : ℕ) → FunctionKind → (is_pure strict : Bool) → (at : ℕ) → Context
of_function c scope how is_pure strict at = if at == 0 then at_function_name c scope how is_pure else if at == 1 then at_parameters c scope how strict else in_function c scope how strict

-- The context of the child at a place among those below a node of this kind, where the node's own scope, if it makes
-- one, has this number.
abbrev pub inside : Context → (scope : ℕ) → Kind → (below : Forest) → (at : ℕ) → Context
inside c scope (program source) below at = in_body c scope (is_module source || is_strict_list below)
inside c scope (function how pure) below at = of_function c scope how pure (c.strict || is_strict_function below) at
inside c scope (class how) below at = if at == 0 then at_class_name c scope how else in_block c scope true
inside c scope static_block below at = in_body c scope c.strict
inside c scope (property_definition is_static key) below at = if has_second below && at == 1 then in_block c scope c.strict else below_it c
inside c scope block_statement below at = in_block c scope c.strict
inside c scope switch_statement below at = if at == 1 then in_block c scope c.strict else below_it c
inside c scope with_statement below at = if at == 1 then in_block c scope c.strict else below_it c
inside c scope catch_clause below at = if at == 0 then declares (in_block c scope c.strict) (body_of scope) symbol_flag.catch_variable false else in_block c scope c.strict
inside c scope for_statement below at = in_block c scope c.strict
inside c scope for_in_statement below at = if at == 0 then used write (in_block c scope c.strict) else in_block c scope c.strict
inside c scope for_of_statement below at = if at == 0 then used write (in_block c scope c.strict) else in_block c scope c.strict
inside c scope k below at = beside c k at

-- that of the program
abbrev pub outermost : Context
outermost =
    record { layers = []; scope = None; variables = body_of 0; block = body_of 0; declaring = record { layer = body_of 0; flags = 0; is_pure = false }; role = read; strict = false; constructs = false }
