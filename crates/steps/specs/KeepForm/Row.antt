-- The rows in which nodes stand, by what may leave them: items leave lists of statements, declarators those of such items, and names
-- the lists of imports.
use Rattle.std.specs.Prelude.{Bool, true, false, if◌then◌else◌}
use Rattle.js_syntax.specs.declared.node_kind.NodeKind.{NodeKind as Kind}
use Rattle.js_syntax.specs.declared.node_kind.NodeKind.TheVariants.{Program as program, Statements as statements, FunctionBody as function_body, BlockStatement as block_statement, StaticBlock as static_block, SwitchCase as switch_case, LabeledStatement as labeled_statement, IfStatement as if_statement, WithStatement as with_statement, WhileStatement as while_statement, DoWhileStatement as do_while_statement, ForStatement as for_statement, ForInStatement as for_in_statement, ForOfStatement as for_of_statement, VariableDeclaration as variable_declaration, Declarators as declarators, ImportDeclaration as import_declaration, Specifiers as specifiers}

-- The row in which a node stands: the parts of a node that has statements or a list of them; such a list; what lies below a
-- variable declaration that is an item of one, and its declarators; what lies below one elsewhere, as in the head of a loop;
-- what lies below an import, and its list of names; any other.
pub data Row : Type 0 where
  parts items of_item of_declarators of_head of_import of_specifiers other : Row

-- nodes below which a statement stands, or a list of them
abbrev pub has_statements : Kind → Bool
has_statements (program source) = true
has_statements function_body = true
has_statements block_statement = true
has_statements static_block = true
has_statements switch_case = true
has_statements (labeled_statement label) = true
has_statements if_statement = true
has_statements with_statement = true
has_statements while_statement = true
has_statements do_while_statement = true
has_statements for_statement = true
has_statements for_in_statement = true
has_statements for_of_statement = true
has_statements k = false

-- Of what stands right below a variable declaration rules see what lies two levels further in, so no names of imports leave there.
abbrev pub row_below : Row → Kind → Row
row_below parts statements = items
row_below items (variable_declaration how) = of_item
row_below row (variable_declaration how) = of_head
row_below of_item declarators = of_declarators
row_below of_item k = other
row_below of_head k = other
row_below row (import_declaration source) = of_import
row_below of_import specifiers = of_specifiers
row_below of_import k = other
row_below row k = if has_statements k then parts else other

-- rows that nodes leave, and rows in which statements become empty
abbrev pub may_leave : Row → Bool
may_leave items = true
may_leave of_declarators = true
may_leave of_specifiers = true
may_leave row = false

abbrev pub may_empty : Row → Bool
may_empty parts = true
may_empty items = true
may_empty row = false
