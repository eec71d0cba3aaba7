-- Which trees have each declaration where the table of nodes and the rules of form let it stand: names below what declares them,
-- `let`, `const`, functions and imports in lists of statements, exports and heads of `for` alone. It is decided on the tree.
use Rattle.std.specs.Prelude.{ℕ, suc, List, [], ◌∷◌, ◌==◌, Bool, true, false, ◌&&◌, Some, None, if◌then◌else◌}
use Rattle.js_syntax.specs.declared.node_kind.NodeKind.{NodeKind as Kind}
use Rattle.js_syntax.specs.Node.{Forest, nothing, node, absent}
use Rattle.js_syntax.specs.declared.kind.VariableKind.TheVariants as variable
use Rattle.js_syntax.specs.declared.kind.FunctionKind.{FunctionKind}
use Rattle.js_syntax.specs.declared.kind.FunctionKind.TheVariants as function_kind
use Rattle.js_meaning.specs.Value.{Text}
use Rattle.js_meaning.specs.Scope.{behind, bound_names}

-- what a node is, as far as declarations ask
pub data Sort : Type 0 where
  a_name the_parameters a_declarator the_declarators : Sort
  -- of `let` and `const`, and of a function
  a_declaration : Sort
  an_import the_specifiers an_imported : Sort
  the_statements a_body the_cases a_case an_export : Sort
  -- any other; and what makes scopes of which no run is defined, or a program, which stand nowhere below
  plain never : Sort

abbrev pub sort_of : Kind → Sort
sort_of (Kind.BindingName x) = a_name
sort_of Kind.Parameters = the_parameters
sort_of Kind.VariableDeclarator = a_declarator
sort_of Kind.Declarators = the_declarators
sort_of (Kind.VariableDeclaration variable.Let) = a_declaration
sort_of (Kind.VariableDeclaration variable.Const) = a_declaration
sort_of (Kind.Function function_kind.Declaration pure) = a_declaration
sort_of (Kind.ImportDeclaration source) = an_import
sort_of Kind.Specifiers = the_specifiers
sort_of (Kind.ImportSpecifier name) = an_imported
sort_of Kind.ImportDefaultSpecifier = an_imported
sort_of Kind.ImportNamespaceSpecifier = an_imported
sort_of Kind.Statements = the_statements
sort_of Kind.FunctionBody = a_body
sort_of Kind.Cases = the_cases
sort_of Kind.SwitchCase = a_case
sort_of (Kind.ExportNamedDeclaration source) = an_export
sort_of Kind.ExportDefaultDeclaration = an_export
sort_of (Kind.Program source) = never
sort_of (Kind.Class how) = never
sort_of (Kind.PropertyDefinition is_static key) = never
sort_of Kind.StaticBlock = never
sort_of Kind.WithStatement = never
sort_of Kind.ForInStatement = never
sort_of Kind.ForOfStatement = never
sort_of k = plain

-- a place in a row, by what may stand there
pub data Place : Type 0 where
  no_node names parameters code program_list module_items lists items declared declaration declarators specifiers imports cases case_items listed others : Place

abbrev pub fits : Place → Sort → Bool
fits names a_name = true
fits parameters the_parameters = true
fits code a_body = true
fits code plain = true
fits program_list the_statements = true
fits module_items a_declaration = true
fits module_items an_import = true
fits module_items an_export = true
fits module_items plain = true
fits lists the_statements = true
fits lists plain = true
fits items a_declaration = true
fits items plain = true
fits declared a_declaration = true
fits declared the_specifiers = true
fits declared plain = true
fits declaration the_declarators = true
fits declarators a_declarator = true
fits specifiers the_specifiers = true
fits imports an_imported = true
fits cases the_cases = true
fits case_items a_case = true
fits listed the_specifiers = true
fits listed plain = true
fits others plain = true
fits p s = false

-- an arrow has no name
abbrev pub name_place : FunctionKind → Place
name_place function_kind.Arrow = no_node
name_place f = names

abbrev pub function_place : FunctionKind → (at : ℕ) → Place
function_place f at = if at == 0 then name_place f else if at == 1 then parameters else code

-- imports and exports stand in a program's own list alone
abbrev pub statements_place : Place → Place
statements_place program_list = module_items
statements_place p = items

-- the specifiers of an export declare nothing
abbrev pub specifier_place : Place → Place
specifier_place specifiers = imports
specifier_place p = others

-- the places below a node, by that of the node
abbrev pub place_below : Place → Kind → (at : ℕ) → Place
place_below p (Kind.BindingName x) at = no_node
place_below p Kind.Parameters at = names
place_below p Kind.VariableDeclarator at = if at == 0 then names else others
place_below p Kind.Declarators at = declarators
place_below p (Kind.VariableDeclaration how) at = declaration
place_below p (Kind.Function f pure) at = function_place f at
place_below p Kind.CatchClause at = if at == 0 then names else others
place_below p Kind.ForStatement at = if at == 0 then declared else others
place_below p Kind.SwitchStatement at = if at == 1 then cases else others
place_below p Kind.Cases at = case_items
place_below p Kind.SwitchCase at = lists
place_below p (Kind.Program source) at = program_list
place_below p Kind.FunctionBody at = lists
place_below p Kind.BlockStatement at = lists
place_below p Kind.Statements at = statements_place p
place_below p (Kind.ExportNamedDeclaration None) at = declared
place_below p (Kind.ExportNamedDeclaration (Some source)) at = listed
place_below p Kind.ExportDefaultDeclaration at = declared
place_below p (Kind.ImportDeclaration source) at = specifiers
place_below p (Kind.ImportSpecifier name) at = if at == 0 then names else no_node
place_below p Kind.ImportDefaultSpecifier at = if at == 0 then names else no_node
place_below p Kind.ImportNamespaceSpecifier at = if at == 0 then names else no_node
place_below p Kind.Specifiers at = specifier_place p
place_below p k at = others

-- of a row: each node stands where it may
abbrev pub well_placed : (places : ℕ → Place) → (at : ℕ) → Forest → Bool
well_placed places at nothing = true
well_placed places at (absent r) = well_placed places (suc at) r
well_placed places at (node k n a r) = fits (places at) (sort_of k) && (well_placed (place_below (places at) k) 0 a && well_placed places (suc at) r)

-- whether the initialisers of declarators declare no names, but in functions
abbrev pub is_none : List Text → Bool
is_none [] = true
is_none (x ∷ xs) = false

abbrev pub has_plain_value : Kind → (below : Forest) → Bool
has_plain_value Kind.VariableDeclarator a = is_none (bound_names (behind a))
has_plain_value k a = true

abbrev pub has_plain_values : Forest → Bool
has_plain_values nothing = true
has_plain_values (absent r) = has_plain_values r
has_plain_values (node k n a r) = has_plain_value k a && (has_plain_values a && has_plain_values r)

-- of a whole program
abbrev pub is_well_placed : Forest → Bool
is_well_placed (node (Kind.Program source) n a nothing) = well_placed (place_below others (Kind.Program source)) 0 a && has_plain_values a
is_well_placed t = false
