-- The names that a scope declares, in order of places (ECMA-262 8.2).
use Rattle.std.specs.Prelude.{ℕ, ◌+◌, List, [], ◌∷◌, ◌++◌, Bool, true, false, ◌&&◌, ◌||◌, if◌then◌else◌}
use Rattle.std.specs.Str.{bytes_eq}
use Rattle.js_tree.specs.Count.{one_each, node_count}
use Rattle.js_syntax.specs.declared.node_kind.NodeKind.{NodeKind as Kind}
use Rattle.js_syntax.specs.declared.node_kind.NodeKind.TheVariants.{BindingName as binding_name, Statements as statements, FunctionBody as function_body, BlockStatement as block_statement, WithStatement as with_statement, LabeledStatement as labeled_statement, IfStatement as if_statement, SwitchStatement as switch_statement, Cases as cases, SwitchCase as switch_case, TryStatement as try_statement, CatchClause as catch_clause, WhileStatement as while_statement, DoWhileStatement as do_while_statement, ForStatement as for_statement, ForInStatement as for_in_statement, ForOfStatement as for_of_statement, Function as function, Class as class, VariableDeclaration as variable_declaration, Declarators as declarators, VariableDeclarator as variable_declarator, Parameters as parameters, BindingRest as binding_rest, BindingObject as binding_object, BindingArray as binding_array, BindingProperty as binding_property, BindingDefault as binding_default, Properties as properties, Elements as elements, ImportDeclaration as import_declaration, Specifiers as specifiers, ImportSpecifier as import_specifier, ImportDefaultSpecifier as import_default_specifier, ImportNamespaceSpecifier as import_namespace_specifier, ExportNamedDeclaration as export_named_declaration, ExportDefaultDeclaration as export_default_declaration}
use Rattle.js_syntax.specs.Node.{Forest, nothing, node, absent, alone}
use Rattle.js_syntax.specs.declared.kind.FunctionKind.TheVariants as function_kind
use Rattle.js_syntax.specs.declared.kind.ClassKind.TheVariants as class_kind
use Rattle.js_syntax.specs.declared.kind.VariableKind.TheVariants as variable_kind
use Rattle.form_rules.specs.declared.sought.Sort.{Sort}
use Rattle.form_rules.specs.declared.sought.Sort.TheVariants.{Lexical as lexical, Repeatable as repeatable, Hoisted as hoisted, Variable as variable, Parameter as parameter, CatchParameter as catch_parameter}
use Rattle.form_rules.specs.declared.sought.Sought.{Sought}
use Rattle.form_rules.specs.declared.sought.Sought.TheVariants.{Nothing as none, Names as names, Bound as bound, Scope as scope, Variables as variables, FunctionScope as function_scope, CatchScope as catch_scope}

pub record Declared : Type 0 where
  pub name : List ℕ
  pub place : ℕ
  pub sort : Sort

-- BoundNames (8.2.1): keys and defaults are expressions, and bind nothing
abbrev pub bound_below : Sort → Kind → Sought
bound_below s declarators = bound s
bound_below s variable_declarator = bound s
bound_below s parameters = bound s
bound_below s binding_object = bound s
bound_below s properties = bound s
bound_below s (binding_property key) = bound s
bound_below s binding_array = bound s
bound_below s elements = bound s
bound_below s binding_default = bound s
bound_below s binding_rest = bound s
bound_below s specifiers = bound s
bound_below s (import_specifier imported) = bound s
bound_below s import_default_specifier = bound s
bound_below s import_namespace_specifier = bound s
bound_below s k = none

-- VarDeclaredNames (8.2.6): through statements of all sorts, and into no function or class
abbrev pub variables_below : Kind → Sought
variables_below (variable_declaration variable_kind.Var) = bound variable
variables_below statements = variables
variables_below block_statement = variables
variables_below if_statement = variables
variables_below with_statement = variables
variables_below (labeled_statement label) = variables
variables_below switch_statement = variables
variables_below cases = variables
variables_below switch_case = variables
variables_below try_statement = variables
variables_below catch_clause = variables
variables_below while_statement = variables
variables_below do_while_statement = variables
variables_below for_statement = variables
variables_below for_in_statement = variables
variables_below for_of_statement = variables
variables_below (export_named_declaration source) = variables
variables_below k = none

-- LexicallyDeclaredNames (8.2.4) with those declared by `var`
abbrev pub scope_below : Sort → Kind → Sought
scope_below fs statements = scope fs
scope_below fs switch_case = scope fs
scope_below fs (export_named_declaration source) = scope fs
scope_below fs export_default_declaration = scope fs
scope_below fs (variable_declaration variable_kind.Let) = bound lexical
scope_below fs (variable_declaration variable_kind.Const) = bound lexical
scope_below fs (import_declaration source) = bound lexical
scope_below fs (class class_kind.Declaration) = names lexical
scope_below fs (function function_kind.Declaration pure) = names fs
scope_below fs k = variables_below k

-- a function's own name, which stands before its parameters, is none of its scope
abbrev pub function_below : Kind → Sought
function_below parameters = bound parameter
function_below function_body = scope hoisted
function_below k = none

abbrev pub catch_below : Sort → Kind → Sought
catch_below fs block_statement = scope fs
catch_below fs k = bound_below catch_parameter k

abbrev pub sought_below : Sought → Kind → Sought
sought_below none k = none
sought_below (names s) k = none
sought_below (bound s) k = bound_below s k
sought_below (scope fs) k = scope_below fs k
sought_below variables k = variables_below k
sought_below function_scope k = function_below k
sought_below (catch_scope fs) k = catch_below fs k

abbrev pub declared_here : Sought → (place : ℕ) → Kind → List Declared
declared_here (names s) place (binding_name x) = record { name = x; place = place; sort = s } ∷ []
declared_here (bound s) place (binding_name x) = record { name = x; place = place; sort = s } ∷ []
declared_here (catch_scope fs) place (binding_name x) = record { name = x; place = place; sort = catch_parameter } ∷ []
declared_here sought place k = []

abbrev pub declared : Sought → (place : ℕ) → Forest → List Declared
declared sought place nothing = []
declared sought place (absent rest) = declared sought place rest
declared sought place (node k n below rest) = declared_here sought place k ++ declared (sought_below sought k) (place + one_each k) below ++ declared sought (place + node_count (alone k n below)) rest

-- ---- names that clash

abbrev pub clashes_with_any : (Sort → Sort → Bool) → Declared → List Declared → Bool
clashes_with_any clash d [] = false
clashes_with_any clash d (e ∷ es) = (bytes_eq e.name d.name && clash e.sort d.sort) || clashes_with_any clash d es

-- those that clash with an earlier one, of the same name
abbrev pub later_behind : (Sort → Sort → Bool) → (seen : List Declared) → List Declared → List Declared
later_behind clash seen [] = []
later_behind clash seen (d ∷ ds) = if clashes_with_any clash d seen then d ∷ later_behind clash (d ∷ seen) ds else later_behind clash (d ∷ seen) ds

abbrev pub later : (Sort → Sort → Bool) → List Declared → List Declared
later clash ds = later_behind clash [] ds

-- a lexical name is declared once; functions may repeat where code isn't strict, and so may what is hoisted
abbrev pub is_lexical : Sort → Bool
is_lexical lexical = true
is_lexical repeatable = true
is_lexical s = false

abbrev pub clash : Sort → Sort → Bool
clash repeatable repeatable = false
clash a b = is_lexical a || is_lexical b

abbrev pub both_parameters : Sort → Sort → Bool
both_parameters parameter parameter = true
both_parameters catch_parameter catch_parameter = true
both_parameters a b = false

abbrev pub variable_of_catch : Sort → Sort → Bool
variable_of_catch catch_parameter variable = true
variable_of_catch a b = false
