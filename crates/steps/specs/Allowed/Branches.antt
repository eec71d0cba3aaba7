-- Which branches of an `if` may stand in its place, and which may be left out.
use Rattle.std.specs.Prelude.{Bool, true, false, ◌&&◌}
use Rattle.js_syntax.specs.declared.node_kind.NodeKind.{NodeKind as Kind}
use Rattle.js_syntax.specs.declared.node_kind.NodeKind.TheVariants.{EmptyStatement as empty_statement, ExpressionStatement as expression_statement, BlockStatement as block_statement, ForOfStatement as for_of_statement, ForInStatement as for_in_statement, ForStatement as for_statement, IfStatement as if_statement, BreakStatement as break_statement, ContinueStatement as continue_statement, ReturnStatement as return_statement, ThrowStatement as throw_statement, SwitchStatement as switch_statement, TryStatement as try_statement, CatchClause as catch_clause, Function as function, Class as class, VariableDeclaration as variable_declaration, BindingName as binding_name}
use Rattle.js_syntax.specs.declared.kind.FunctionKind.TheVariants as function_kind
use Rattle.js_syntax.specs.declared.kind.ClassKind.TheVariants as class_kind
use Rattle.js_syntax.specs.declared.kind.VariableKind.TheVariants as variable
use Rattle.js_syntax.specs.Node.{Forest, nothing, node, absent}

-- statements that mean the same wherever one may stand: a label has another meaning in front of a loop (14.13)
abbrev pub is_branch : Kind → Bool
is_branch empty_statement = true
is_branch expression_statement = true
is_branch block_statement = true
is_branch if_statement = true
is_branch (break_statement label) = true
is_branch (continue_statement label) = true
is_branch return_statement = true
is_branch throw_statement = true
is_branch switch_statement = true
is_branch try_statement = true
is_branch k = false

-- Whether nothing in a row declares a name around it, outside of functions and classes. What `let`, `const` and classes declare in a block
-- they declare in it alone (ECMA-262 14.2.2), and so does a handler with its parameter (14.15.2); what `var` declares there is one of the
-- function around (14.3.2), and a function that is declared there may be (B.3.2).

abbrev pub is_handler : Kind → Bool
is_handler catch_clause = true
is_handler k = false

-- of the declarators of `let` and `const`
abbrev pub lets_only_at : Kind → (below : Bool) → Bool
lets_only_at (variable_declaration how) below = false
lets_only_at (function function_kind.Declaration pure) below = false
lets_only_at (function how pure) below = true
lets_only_at (class class_kind.Declaration) below = false
lets_only_at (class class_kind.Expression) below = true
lets_only_at k below = below

abbrev pub lets_only : Forest → Bool
lets_only nothing = true
lets_only (absent rest) = lets_only rest
lets_only (node k n below rest) = lets_only_at k (lets_only below) && lets_only rest

-- of what stands in a block
abbrev pub stays_inside_at : Kind → (lets below : Bool) → Bool
stays_inside_at (binding_name x) lets below = false
stays_inside_at (variable_declaration variable.Var) lets below = false
stays_inside_at (variable_declaration how) lets below = lets
stays_inside_at (function function_kind.Declaration pure) lets below = false
stays_inside_at (function how pure) lets below = true
stays_inside_at (class how) lets below = true
stays_inside_at k lets below = below

abbrev pub inside_or_parameter : (is_parameter : Bool) → Kind → (lets below : Bool) → Bool
inside_or_parameter true k lets below = lets_only_at k lets
inside_or_parameter false k lets below = stays_inside_at k lets below

-- of a row that begins with a handler's parameter, or doesn't
abbrev pub inside_from : (is_parameter : Bool) → Forest → Bool
inside_from p nothing = true
inside_from p (absent rest) = inside_from false rest
inside_from p (node k n below rest) = inside_or_parameter p k (lets_only below) (inside_from (is_handler k) below) && inside_from false rest

abbrev pub stays_inside : Forest → Bool
stays_inside t = inside_from false t

-- of a statement or an expression
abbrev pub declares_none_at : Kind → (inside below : Bool) → Bool
declares_none_at (binding_name x) inside below = false
declares_none_at (variable_declaration variable.Var) inside below = false
declares_none_at (function function_kind.Declaration pure) inside below = false
declares_none_at (function how pure) inside below = true
declares_none_at (class class_kind.Declaration) inside below = false
declares_none_at (class class_kind.Expression) inside below = true
declares_none_at block_statement inside below = inside
declares_none_at for_statement inside below = inside
declares_none_at for_in_statement inside below = inside
declares_none_at for_of_statement inside below = inside
declares_none_at k inside below = below

abbrev pub none_or_parameter : (is_parameter : Bool) → Kind → (lets inside below : Bool) → Bool
none_or_parameter true k lets inside below = lets_only_at k lets
none_or_parameter false k lets inside below = declares_none_at k inside below

abbrev pub none_from : (is_parameter : Bool) → Forest → Bool
none_from p nothing = true
none_from p (absent rest) = none_from false rest
none_from p (node k n below rest) = none_or_parameter p k (lets_only below) (stays_inside below) (none_from (is_handler k) below) && none_from false rest

abbrev pub declares_none : Forest → Bool
declares_none t = none_from false t

-- of a node that is no parameter
abbrev pub declares_no_name : Kind → (below : Forest) → Bool
declares_no_name k below = declares_none_at k (stays_inside below) (none_from (is_handler k) below)
