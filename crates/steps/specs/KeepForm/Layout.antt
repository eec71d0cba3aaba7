-- How a tree is laid out, as far as steps ask: which nodes stand in which rows.
use Rattle.std.specs.Prelude.{Bool, true, false, not, ◌≡◌, ◌&&◌, ◌||◌}
use Rattle.js_syntax.specs.declared.node_kind.NodeKind.{NodeKind as Kind}
use Rattle.js_syntax.specs.declared.node_kind.NodeKind.TheVariants.{Program as program, Statements as statements, ExpressionStatement as expression_statement, Function as function, BindingName as binding_name, Specifiers as specifiers, ExportNamedDeclaration as export_named_declaration, ImportDeclaration as import_declaration}
use Rattle.js_syntax.specs.Node.{Forest, nothing, node, absent}
use Rattle.form_rules.specs.Context.{has_use_strict}
use Rattle.form_rules.specs.Rules.{behind}
use Rattle.json_shape.specs.Shape.{is_directive_kind}
use Rattle.steps.specs.KeepForm.Row.{Row, parts, of_item, of_declarators, of_head, other, row_below, may_empty}

abbrev pub is_parts : Row → Bool
is_parts parts = true
is_parts row = false

abbrev pub is_declarators : Row → Bool
is_declarators of_declarators = true
is_declarators row = false

-- what the first of a row's nodes is
abbrev pub is_list_first : Forest → Bool
is_list_first (node statements n a r) = true
is_list_first t = false

abbrev pub are_specifiers_first : Forest → Bool
are_specifiers_first (node specifiers n a r) = true
are_specifiers_first t = false

-- whether none of a row's nodes is a name that is bound
abbrev pub binds_none : Forest → Bool
binds_none nothing = true
binds_none (absent r) = binds_none r
binds_none (node (binding_name x) n a r) = false
binds_none (node k n a r) = binds_none r

-- rows right below a variable declaration
abbrev pub is_of_declaration : Row → Bool
is_of_declaration of_item = true
is_of_declaration of_head = true
is_of_declaration row = false

-- A list of statements stands where one may, and so does a statement of an expression; a program is a list of statements,
-- an export of names has its specifiers second, a function binds no other name beside its own, and an import stands in no declaration.
abbrev pub stands_right : Row → Kind → (below : Forest) → Bool
stands_right row statements a = is_parts row
stands_right row expression_statement a = may_empty row
stands_right row (program source) a = is_list_first a
stands_right row (export_named_declaration source) a = are_specifiers_first (behind a)
stands_right row (function how pure) a = binds_none (behind a)
stands_right row (import_declaration source) a = not (is_of_declaration row)
stands_right row k a = true

-- No node stands before a directive, but other directives, and no declarator is absent.
abbrev pub is_laid_out : Row → Forest → Bool
is_laid_out row nothing = true
is_laid_out row (absent r) = not (is_declarators row) && is_laid_out row r
is_laid_out row (node k n a r) = (is_directive_kind k || not (has_use_strict r)) && (stands_right row k a && (is_laid_out (row_below row k) a && is_laid_out row r))

abbrev pub IsLaidOut : Forest → Type 0
IsLaidOut t = is_laid_out other t ≡ true
