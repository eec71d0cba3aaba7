-- What a pass asks of the place where a node stands.
use Rattle.std.specs.Prelude.{Bool, true, false, ◌||◌}
use Rattle.js_syntax.specs.declared.node_kind.NodeKind.{NodeKind as Kind}
use Rattle.js_syntax.specs.declared.node_kind.NodeKind.TheVariants.{Statements as statements, VariableDeclaration as variable_declaration, Declarators as declarators, Class as class, WithStatement as with_statement}
use Rattle.min_pass.specs.declared.around.Around.{Around}
use Rattle.min_pass.specs.declared.around.Row.{Row}
use Rattle.min_pass.specs.declared.around.Row.TheVariants.{Items as items, OfItem as of_item, Declarators as item_declarators, Other as other}

-- The row below a node: a list of statements, or the declarators of a declaration that is an item of one.
abbrev pub row_below : Row → Kind → Row
row_below row statements = items
row_below items (variable_declaration how) = of_item
row_below of_item declarators = item_declarators
row_below row k = other

abbrev pub is_with : Kind → Bool
is_with with_statement = true
is_with k = false

abbrev pub is_class : Kind → Bool
is_class (class how) = true
is_class k = false

abbrev pub entered : Around → Kind → Around
entered a k = record { row = row_below a.row k; in_with = a.in_with || is_with k; in_class = a.in_class || is_class k; knows_names = a.knows_names }

-- around a program
abbrev pub outermost : (knows_names : Bool) → Around
outermost knows = record { row = other; in_with = false; in_class = false; knows_names = knows }
