-- The rules of form: each gives the places where a node of some kind breaks it.
use Rattle.std.specs.Prelude.{ℕ, suc, ◌+◌, ◌^◌, pos, negsuc, List, [], ◌∷◌, ◌++◌, Bool, true, false, not, ◌&&◌, ◌||◌, ◌==◌, Option, Some, None, codes, nat_lt, if◌then◌else◌}
use Rattle.std.specs.Str.{bytes_eq}
use Rattle.js_tree.specs.Count.{node_count}
use Rattle.js_syntax.specs.declared.node_kind.NodeKind.{NodeKind as Kind}
use Rattle.js_syntax.specs.declared.node_kind.NodeKind.TheVariants.{Program as program, BlockStatement as block_statement, Function as function, Class as class, Members as members, MethodDefinition as method_definition, PropertyDefinition as property_definition, StaticBlock as static_block, PrivateName as private_name, BindingName as binding_name, ReferenceName as reference_name, TargetName as target_name, LabeledStatement as labeled_statement, BreakStatement as break_statement, ContinueStatement as continue_statement, ReturnStatement as return_statement, WithStatement as with_statement, ForStatement as for_statement, ForInStatement as for_in_statement, ForOfStatement as for_of_statement, Cases as cases, SwitchCase as switch_case, TryStatement as try_statement, CatchClause as catch_clause, VariableDeclaration as variable_declaration, Parameters as parameters, Elements as elements, Properties as properties, BindingRest as binding_rest, TargetRest as target_rest, Literal as literal, Super as super, CallExpression as call_expression, MemberExpression as member_expression, NewTarget as new_target, ImportMeta as import_meta, UnaryExpression as unary_expression, ParenthesizedExpression as parenthesized_expression, SequenceExpression as sequence_expression, TemplateLiteral as template_literal, ImportDeclaration as import_declaration, ExportNamedDeclaration as export_named_declaration, ExportSpecifier as export_specifier, ForeignSpecifier as foreign_specifier, ExportDefaultDeclaration as export_default_declaration, ExportAllDeclaration as export_all_declaration}
use Rattle.js_syntax.specs.declared.value.Key.TheVariants.{Below as key_below}
use Rattle.js_syntax.specs.declared.value.LiteralValue.TheVariants as value
use Rattle.js_syntax.specs.declared.value.ModuleName.{ModuleName}
use Rattle.js_syntax.specs.declared.value.ModuleName.TheVariants.{Name as plain_name, Text as quoted_name}
use Rattle.js_syntax.specs.declared.scalar.SourceType.{SourceType}
use Rattle.js_syntax.specs.declared.kind.FunctionKind.{FunctionKind}
use Rattle.js_syntax.specs.declared.kind.FunctionKind.TheVariants as function_kind
use Rattle.js_syntax.specs.declared.kind.ClassKind.TheVariants as class_kind
use Rattle.js_syntax.specs.declared.kind.MethodKind.{MethodKind}
use Rattle.js_syntax.specs.declared.kind.MethodKind.TheVariants as method_kind
use Rattle.js_syntax.specs.declared.kind.VariableKind.{VariableKind}
use Rattle.js_syntax.specs.declared.kind.VariableKind.TheVariants as variable_kind
use Rattle.js_syntax.specs.declared.operator.UnaryOperator.TheVariants as unary
use Rattle.js_syntax.specs.Node.{Forest, nothing, node, absent}
use Rattle.form_rules.specs.declared.rule.Break.{Break}
use Rattle.form_rules.specs.declared.role.Half.{Half}
use Rattle.form_rules.specs.declared.role.Half.TheVariants.{Getter as getter, Setter as setter, Whole as whole}
use Rattle.form_rules.specs.declared.sought.Sort.{Sort}
use Rattle.form_rules.specs.declared.sought.Sort.TheVariants.{Lexical as lexical, Repeatable as repeatable, Hoisted as hoisted}
use Rattle.form_rules.specs.declared.sought.Sought.TheVariants.{Scope as scope, FunctionScope as function_scope, CatchScope as catch_scope}
use Rattle.form_rules.specs.Break.{at_place, unless}
use Rattle.form_rules.specs.Name.{is_among, may_be_read, may_be_bound}
use Rattle.form_rules.specs.Scope.{Declared, declared, later, clash, both_parameters, variable_of_catch}
use Rattle.form_rules.specs.Context.{Context, Label, is_module, is_strict_function, is_method, is_absent, private_key_of}
use Rattle.json_text.specs.Text.{is_identifier_name}

-- ---- rows of nodes

-- the places of those of a row that are such
abbrev pub places_of : (Kind → Forest → Bool) → (place : ℕ) → Forest → List ℕ
places_of test place nothing = []
places_of test place (absent rest) = places_of test place rest
places_of test place (node k n below rest) = if test k below then place ∷ places_of test (place + node_count (node k n below nothing)) rest else places_of test (place + node_count (node k n below nothing)) rest

abbrev pub all_but_first : List ℕ → List ℕ
all_but_first [] = []
all_but_first (p ∷ ps) = ps

abbrev pub each_breaks : (rule : ℕ) → List ℕ → List Break
each_breaks rule [] = []
each_breaks rule (p ∷ ps) = at_place p rule ∷ each_breaks rule ps

abbrev pub declared_places : List Declared → List ℕ
declared_places [] = []
declared_places (d ∷ ds) = d.place ∷ declared_places ds

abbrev pub length_of : Forest → ℕ
length_of nothing = 0
length_of (absent rest) = length_of rest
length_of (node k n below rest) = suc (length_of rest)

-- what lies below the first node of a row, and the row behind it
abbrev pub first_below : Forest → Forest
first_below (node k n below rest) = below
first_below t = nothing

abbrev pub behind : Forest → Forest
behind nothing = nothing
behind (absent rest) = rest
behind (node k n below rest) = rest

-- ---- 1: a lexical name is declared once in its scope, and is no variable or parameter of it, nor one that is declared through it
-- (14.2.1, 14.12.1, 14.7.4.1, 14.15.1, 15.2.1, 16.1.1, 16.2.1.1)

abbrev pub functions_in : (strict : Bool) → Sort
functions_in true = lexical
functions_in false = repeatable

abbrev pub at_top : SourceType → Sort
at_top source = if is_module source then lexical else hoisted

abbrev pub declared_by : Context → Kind → (place : ℕ) → (below : Forest) → List Declared
declared_by c (program source) place below = declared (scope (at_top source)) (suc place) below
declared_by c (function how pure) place below = declared function_scope (suc place) below
declared_by c static_block place below = declared (scope hoisted) (suc place) below
declared_by c block_statement place below = declared (scope (functions_in c.strict)) (suc place) below
declared_by c cases place below = declared (scope (functions_in c.strict)) place below
declared_by c for_statement place below = declared (scope lexical) (suc place) below
declared_by c for_in_statement place below = declared (scope lexical) (suc place) below
declared_by c for_of_statement place below = declared (scope lexical) (suc place) below
declared_by c catch_clause place below = declared (catch_scope (functions_in c.strict)) (suc place) below
declared_by c k place below = []

abbrev pub rule_1 : Context → Kind → (place : ℕ) → (below : Forest) → List Break
rule_1 c k place below = each_breaks 1 (declared_places (later clash (declared_by c k place below)))

-- ---- 2: a parameter comes once, but in a function of code that isn't strict whose parameters are plain names and which is no
-- arrow and no method (15.1.1, 15.2.1, 15.3.1); one of a catch comes once (14.15.1)

abbrev pub are_names : Forest → Bool
are_names nothing = true
are_names (absent rest) = are_names rest
are_names (node (binding_name s) n below rest) = are_names rest
are_names (node k n below rest) = false

abbrev pub have_plain_parameters : Forest → Bool
have_plain_parameters nothing = true
have_plain_parameters (absent rest) = have_plain_parameters rest
have_plain_parameters (node parameters n below rest) = are_names below
have_plain_parameters (node k n below rest) = have_plain_parameters rest

abbrev pub is_arrow : FunctionKind → Bool
is_arrow function_kind.Arrow = true
is_arrow how = false

abbrev pub may_repeat_parameters : Context → Kind → (below : Forest) → Bool
may_repeat_parameters c (function how pure) below = not (c.strict || is_strict_function below || is_arrow how || is_method c.role) && have_plain_parameters below
may_repeat_parameters c k below = false

abbrev pub rule_2 : Context → Kind → (place : ℕ) → (below : Forest) → List Break
rule_2 c k place below = if may_repeat_parameters c k below then [] else each_breaks 2 (declared_places (later both_parameters (declared_by c k place below)))

-- ---- 3: what is left is there (14.8.1, 14.9.1), and no label stands inside itself (14.13.1)

abbrev pub has_label : List ℕ → List Label → Bool
has_label s [] = false
has_label s (l ∷ ls) = bytes_eq l.name s || has_label s ls

abbrev pub has_loop : List ℕ → List Label → Bool
has_loop s [] = false
has_loop s (l ∷ ls) = (bytes_eq l.name s && l.is_loop) || has_loop s ls

abbrev pub rule_3 : Context → Kind → (place : ℕ) → (below : Forest) → List Break
rule_3 c (break_statement None) place below = unless c.leaves.breaks place 3
rule_3 c (break_statement (Some s)) place below = unless (has_label s c.leaves.labels) place 3
rule_3 c (continue_statement None) place below = unless c.leaves.continues place 3
rule_3 c (continue_statement (Some s)) place below = unless (has_loop s c.leaves.labels) place 3
rule_3 c (labeled_statement s) place below = unless (not (has_label s c.leaves.labels)) place 3
rule_3 c k place below = []

-- ---- 4: a private name is declared by a class around it, and once by its class, but for a getter and a setter (15.7.1)

pub record Private : Type 0 where
  pub name : List ℕ
  pub place : ℕ
  pub half : Half
  pub is_static : Bool

abbrev pub half_of : MethodKind → Half
half_of method_kind.Get = getter
half_of method_kind.Set = setter
half_of how = whole

abbrev pub privates_named : List (List ℕ) → (place : ℕ) → Half → (is_static : Bool) → List Private
privates_named [] place half is_static = []
privates_named (s ∷ ss) place half is_static = record { name = s; place = place; half = half; is_static = is_static } ∷ []

abbrev pub private_of : Kind → (place : ℕ) → (below : Forest) → List Private
private_of (method_definition how is_static key_below) place below = privates_named (private_key_of below) (suc place) (half_of how) is_static
private_of (property_definition is_static key_below) place below = privates_named (private_key_of below) (suc place) whole is_static
private_of k place below = []

abbrev pub privates_among : (place : ℕ) → Forest → List Private
privates_among place nothing = []
privates_among place (absent rest) = privates_among place rest
privates_among place (node k n below rest) = private_of k place below ++ privates_among (place + node_count (node k n below nothing)) rest

abbrev pub other_half : Half → Half → Bool
other_half getter setter = true
other_half setter getter = true
other_half a b = false

abbrev pub same_flag : Bool → Bool → Bool
same_flag true b = b
same_flag false b = not b

abbrev pub same_private : Private → Private → Bool
same_private a b = bytes_eq a.name b.name && not (other_half a.half b.half && same_flag a.is_static b.is_static)

abbrev pub is_repeated : Private → List Private → Bool
is_repeated p [] = false
is_repeated p (q ∷ qs) = same_private q p || is_repeated p qs

abbrev pub repeated_privates : (seen : List Private) → List Private → List ℕ
repeated_privates seen [] = []
repeated_privates seen (p ∷ ps) = if is_repeated p seen then p.place ∷ repeated_privates (p ∷ seen) ps else repeated_privates (p ∷ seen) ps

abbrev pub rule_4 : Context → Kind → (place : ℕ) → (below : Forest) → List Break
rule_4 c (private_name s) place below = unless (is_among s c.members.privates) place 4
rule_4 c members place below = each_breaks 4 (repeated_privates [] (privates_among place below))
rule_4 c k place below = []

-- ---- 5: names are identifier names that aren't reserved, and what is bound or assigned in strict code isn't `eval` or `arguments`
-- (13.1.1)

abbrev pub rule_5 : Context → Kind → (place : ℕ) → (below : Forest) → List Break
rule_5 c (binding_name s) place below = unless (may_be_bound c.strict (is_module c.source) s) place 5
rule_5 c (target_name s) place below = unless (may_be_bound c.strict (is_module c.source) s) place 5
rule_5 c (reference_name s) place below = unless (may_be_read c.strict (is_module c.source) s) place 5
rule_5 c (private_name s) place below = unless (is_identifier_name s) place 5
rule_5 c k place below = []

-- ---- 6: `return` stands in a function (14.10), or in CommonJS, whose source is the body of one

abbrev pub rule_6 : Context → Kind → (place : ℕ) → (below : Forest) → List Break
rule_6 c return_statement place below = unless c.leaves.returns place 6
rule_6 c k place below = []

-- ---- 7: imports and exports stand in a module (16.1, 16.2); a name is exported once, and what is exported by a name of the module
-- is declared at its top (16.2.3.1)

pub record Exported : Type 0 where
  pub name : List ℕ
  pub place : ℕ

abbrev pub exports_of : (place : ℕ) → List Declared → List Exported
exports_of place [] = []
exports_of place (d ∷ ds) = record { name = d.name; place = place } ∷ exports_of place ds

abbrev pub text_of : ModuleName → List ℕ
text_of (plain_name s) = s
text_of (quoted_name s) = s

abbrev pub named_by : (place : ℕ) → Forest → List Exported
named_by place nothing = []
named_by place (absent rest) = named_by place rest
named_by place (node (export_specifier exported) n below rest) = record { name = text_of exported; place = place } ∷ named_by place rest
named_by place (node (foreign_specifier local exported) n below rest) = record { name = text_of exported; place = place } ∷ named_by place rest
named_by place (node k n below rest) = named_by place rest

abbrev pub all_named : (place : ℕ) → Option ModuleName → List Exported
all_named place None = []
all_named place (Some m) = record { name = text_of m; place = place } ∷ []

abbrev pub exported_by : Kind → (place : ℕ) → (below : Forest) → List Exported
exported_by (export_named_declaration source) place below = exports_of place (declared (scope lexical) place below) ++ named_by place (first_below (behind below))
exported_by export_default_declaration place below = record { name = codes "default"; place = place } ∷ []
exported_by (export_all_declaration exported source) place below = all_named place exported
exported_by k place below = []

abbrev pub exported_among : (place : ℕ) → Forest → List Exported
exported_among place nothing = []
exported_among place (absent rest) = exported_among place rest
exported_among place (node k n below rest) = exported_by k place below ++ exported_among (place + node_count (node k n below nothing)) rest

abbrev pub is_exported : List ℕ → List Exported → Bool
is_exported s [] = false
is_exported s (e ∷ es) = bytes_eq e.name s || is_exported s es

abbrev pub repeated_exports : (seen : List Exported) → List Exported → List ℕ
repeated_exports seen [] = []
repeated_exports seen (e ∷ es) = if is_exported e.name seen then e.place ∷ repeated_exports (e ∷ seen) es else repeated_exports (e ∷ seen) es

-- the local names of exports without a source
abbrev pub local_of : (place : ℕ) → Forest → List Exported
local_of place (node (reference_name s) n below rest) = record { name = s; place = place } ∷ []
local_of place t = []

abbrev pub locals_named : (place : ℕ) → Forest → List Exported
locals_named place nothing = []
locals_named place (absent rest) = locals_named place rest
locals_named place (node (export_specifier exported) n below rest) = local_of place below ++ locals_named place rest
locals_named place (node k n below rest) = locals_named place rest

abbrev pub locals_by : Kind → (place : ℕ) → (below : Forest) → List Exported
locals_by (export_named_declaration None) place below = locals_named place (first_below (behind below))
locals_by k place below = []

abbrev pub locals_among : (place : ℕ) → Forest → List Exported
locals_among place nothing = []
locals_among place (absent rest) = locals_among place rest
locals_among place (node k n below rest) = locals_by k place below ++ locals_among (place + node_count (node k n below nothing)) rest

abbrev pub is_declared : List ℕ → List Declared → Bool
is_declared s [] = false
is_declared s (d ∷ ds) = bytes_eq d.name s || is_declared s ds

abbrev pub undeclared : List Declared → List Exported → List ℕ
undeclared ds [] = []
undeclared ds (e ∷ es) = if is_declared e.name ds then undeclared ds es else e.place ∷ undeclared ds es

abbrev pub rule_7 : Context → Kind → (place : ℕ) → (below : Forest) → List Break
rule_7 c (program source) place below =
    each_breaks 7 (repeated_exports [] (exported_among (suc place) (first_below below))) ++ each_breaks 7 (undeclared (declared_by c (program source) place below) (locals_among (suc place) (first_below below)))
rule_7 c (import_declaration source) place below = unless (is_module c.source) place 7
rule_7 c (export_named_declaration source) place below = unless (is_module c.source) place 7
rule_7 c export_default_declaration place below = unless (is_module c.source) place 7
rule_7 c (export_all_declaration exported source) place below = unless (is_module c.source) place 7
rule_7 c k place below = []

-- ---- 8: `super` and `new.target` stand where they mean something (13.3.1.1, 15.7.1, 16.1), and `import.meta` in a module

abbrev pub first_is_super : Forest → Bool
first_is_super (node super n below rest) = true
first_is_super t = false

abbrev pub rule_8 : Context → Kind → (place : ℕ) → (below : Forest) → List Break
rule_8 c (call_expression optional pure) place below = unless (not (first_is_super below) || c.members.super_calls) place 8
rule_8 c (member_expression key optional) place below = unless (not (first_is_super below) || c.members.super_members) place 8
rule_8 c new_target place below = unless c.members.new_target place 8
rule_8 c import_meta place below = unless (is_module c.source) place 8
rule_8 c k place below = []

-- ---- 9: a `var` in the body of a catch declares none of its parameters (14.15.1, without B.3.4)

abbrev pub rule_9 : Context → Kind → (place : ℕ) → (below : Forest) → List Break
rule_9 c k place below = each_breaks 9 (declared_places (later variable_of_catch (declared_by c k place below)))

-- ---- 10: strict code has no `with` (14.11.1) and no `delete` of a name (13.5.1.1)

abbrev pub is_bare_name : Forest → Bool
is_bare_name (node (reference_name s) n below rest) = true
is_bare_name (node parenthesized_expression n below rest) = is_bare_name below
is_bare_name t = false

abbrev pub rule_10 : Context → Kind → (place : ℕ) → (below : Forest) → List Break
rule_10 c with_statement place below = unless (not c.strict) place 10
rule_10 c (unary_expression unary.Delete) place below = unless (not (c.strict && is_bare_name below)) place 10
rule_10 c k place below = []

-- ---- 11: nodes have the parts that the grammar asks for

abbrev pub is_default : Kind → (below : Forest) → Bool
is_default switch_case below = is_absent below
is_default k below = false

abbrev pub is_constructor : Kind → (below : Forest) → Bool
is_constructor (method_definition method_kind.Constructor is_static key) below = true
is_constructor k below = false

abbrev pub is_rest : Kind → Bool
is_rest binding_rest = true
is_rest target_rest = true
is_rest k = false

abbrev pub is_last : Forest → Bool
is_last nothing = true
is_last t = false

-- rests with something behind them
abbrev pub early_rests : (place : ℕ) → Forest → List ℕ
early_rests place nothing = []
early_rests place (absent rest) = early_rests place rest
early_rests place (node k n below rest) = if is_rest k && not (is_last rest) then place ∷ early_rests (place + node_count (node k n below nothing)) rest else early_rests (place + node_count (node k n below nothing)) rest

-- a pattern and a constant have an initialiser; in the head of a `for`-`in` or `for`-`of` nothing has
abbrev pub is_constant : VariableKind → Bool
is_constant variable_kind.Const = true
is_constant how = false

abbrev pub is_name_first : Forest → Bool
is_name_first (node (binding_name s) n below rest) = true
is_name_first t = false

abbrev pub has_initializer : Forest → Bool
has_initializer below = not (is_absent (behind below))

abbrev pub is_declarator_wrong : (is_head : Bool) → VariableKind → Kind → (below : Forest) → Bool
is_declarator_wrong true how k below = has_initializer below
is_declarator_wrong false how k below = not (has_initializer below) && (is_constant how || not (is_name_first below))

abbrev pub counts_right : (is_head : Bool) → ℕ → Bool
counts_right true n = n == 1
counts_right false n = not (n == 0)

-- declarations that may not stand alone as the body of another statement
abbrev pub is_declaration : Kind → Bool
is_declaration (variable_declaration variable_kind.Let) = true
is_declaration (variable_declaration variable_kind.Const) = true
is_declaration (class class_kind.Declaration) = true
is_declaration (function function_kind.Declaration pure) = true
is_declaration k = false

abbrev pub has_handler_or_finalizer : Forest → Bool
has_handler_or_finalizer below = not (is_absent (behind below) && is_absent (behind (behind below)))

abbrev pub parts_of : Context → Kind → (place : ℕ) → (below : Forest) → List Break
parts_of c cases place below = each_breaks 11 (all_but_first (places_of is_default place below))
parts_of c members place below = each_breaks 11 (all_but_first (places_of is_constructor place below))
parts_of c (variable_declaration how) place below =
    unless (counts_right c.is_head (length_of (first_below below))) place 11 ++ each_breaks 11 (places_of (is_declarator_wrong c.is_head how) (suc place) (first_below below))
parts_of c sequence_expression place below = unless (nat_lt 1 (length_of (first_below below))) place 11
parts_of c template_literal place below = unless (length_of (first_below below) == suc (length_of (first_below (behind below)))) place 11
parts_of c parameters place below = each_breaks 11 (early_rests place below)
parts_of c elements place below = each_breaks 11 (early_rests place below)
parts_of c properties place below = each_breaks 11 (early_rests place below)
parts_of c try_statement place below = unless (has_handler_or_finalizer below) place 11
parts_of c k place below = []

abbrev pub rule_11 : Context → Kind → (place : ℕ) → (below : Forest) → List Break
rule_11 c k place below = unless (not (c.is_alone && is_declaration k)) place 11 ++ parts_of c k place below

-- ---- 12: numbers are within 2^53 - 1 in magnitude

abbrev pub rule_12 : Context → Kind → (place : ℕ) → (below : Forest) → List Break
rule_12 c (literal (value.Number (pos n))) place below = unless (nat_lt n (2 ^ 53)) place 12
rule_12 c (literal (value.Number (negsuc n))) place below = unless (nat_lt (suc n) (2 ^ 53)) place 12
rule_12 c k place below = []

-- ---- all of them

abbrev pub broken_at : Context → Kind → (place : ℕ) → (below : Forest) → List Break
broken_at c k place below =
    rule_1 c k place below ++ rule_2 c k place below ++ rule_3 c k place below ++ rule_4 c k place below ++ rule_5 c k place below ++ rule_6 c k place below
    ++ rule_7 c k place below ++ rule_8 c k place below ++ rule_9 c k place below ++ rule_10 c k place below ++ rule_11 c k place below ++ rule_12 c k place below
