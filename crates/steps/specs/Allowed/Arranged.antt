-- Which trees have the parts of statements that may leave where the table of nodes and the rules of form have them: a statement has
-- its expression and nothing else, a declaration its declarators, and a declarator its name with a value or none.
use Rattle.std.specs.Prelude.{Bool, true, false, ◌&&◌}
use Rattle.js_syntax.specs.declared.node_kind.NodeKind.{NodeKind as Kind}
use Rattle.js_syntax.specs.declared.node_kind.NodeKind.TheVariants.{EmptyStatement as empty_statement, ExpressionStatement as expression_statement, Function as function, VariableDeclaration as variable_declaration, VariableDeclarator as variable_declarator, Declarators as declarators, BindingName as binding_name}
use Rattle.js_syntax.specs.declared.kind.FunctionKind.TheVariants as function_kind
use Rattle.js_syntax.specs.Node.{Forest, nothing, node, absent}
-- one node
pub use Rattle.steps.specs.Steps.{is_single}

abbrev pub is_nothing : Forest → Bool
is_nothing nothing = true
is_nothing t = false

-- one field that may be absent
abbrev pub is_field : Forest → Bool
is_field (absent nothing) = true
is_field t = is_single t

-- nothing lies below a name
abbrev pub is_leaf : Kind → (below : Forest) → Bool
is_leaf (binding_name x) below = is_nothing below
is_leaf k below = true

abbrev pub begins_with_leaf : Forest → Bool
begins_with_leaf (node k n below rest) = is_leaf k below
begins_with_leaf t = true

abbrev pub is_declarator : Kind → (below : Forest) → Bool
is_declarator variable_declarator (node k n below value) = is_leaf k below && is_field value
is_declarator k below = false

abbrev pub are_declarators : Forest → Bool
are_declarators nothing = true
are_declarators (absent rest) = false
are_declarators (node k n below rest) = is_declarator k below && are_declarators rest

-- a list of declarators, which has one at least
abbrev pub has_declarators : Forest → Bool
has_declarators (node declarators n (node k m below rest) nothing) = is_declarator k below && are_declarators rest
has_declarators t = false

abbrev pub is_arranged_at : Kind → (below : Forest) → Bool
is_arranged_at empty_statement below = is_nothing below
is_arranged_at expression_statement below = is_single below
is_arranged_at (function function_kind.Declaration pure) below = begins_with_leaf below
is_arranged_at (variable_declaration how) below = has_declarators below
is_arranged_at k below = true

abbrev pub is_arranged : Forest → Bool
is_arranged nothing = true
is_arranged (absent rest) = is_arranged rest
is_arranged (node k n below rest) = is_arranged_at k below && (is_arranged below && is_arranged rest)
