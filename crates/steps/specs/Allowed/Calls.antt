-- The statements of a program's own list that are calls, up to the first that is more than an expression or a declaration: it may end the
-- list, as `throw` in an `if` does, and what stands behind may never run.
use Rattle.std.specs.Prelude.{ℕ, ◌+◌, Bool, true, false, if◌then◌else◌}
use Rattle.js_syntax.specs.declared.node_kind.NodeKind.{NodeKind as Kind}
use Rattle.js_syntax.specs.declared.node_kind.NodeKind.TheVariants.{Program as program, Statements as statements, Directive as directive, EmptyStatement as empty_statement, ExpressionStatement as expression_statement, VariableDeclaration as variable_declaration, Function as function, Class as class, ImportDeclaration as import_declaration, ExportNamedDeclaration as export_named_declaration, ExportDefaultDeclaration as export_default_declaration, ExportAllDeclaration as export_all_declaration, CallExpression as call_expression}
use Rattle.js_syntax.specs.Node.{Forest, nothing, node, absent}

abbrev pub is_call : Kind → Bool
is_call (call_expression pure optional) = true
is_call k = false

abbrev pub begins_with_call : Forest → Bool
begins_with_call (node k n below rest) = is_call k
begins_with_call t = false

-- of one statement
abbrev pub counted : Kind → (calls : Bool) → ℕ
counted expression_statement calls = if calls then 1 else 0
counted k calls = 0

-- whether the next item may be kept from running, but by an expression that throws
abbrev pub may_end : Kind → Bool
may_end (directive written) = false
may_end empty_statement = false
may_end expression_statement = false
may_end (variable_declaration how) = false
may_end (function how pure) = false
may_end (class how) = false
may_end (import_declaration source) = false
may_end (export_named_declaration source) = false
may_end export_default_declaration = false
may_end (export_all_declaration name source) = false
may_end k = true

abbrev pub calls_in : Forest → ℕ
calls_in nothing = 0
calls_in (absent rest) = calls_in rest
calls_in (node k n below rest) = counted k (begins_with_call below) + (if may_end k then 0 else calls_in rest)

-- what a list of statements has, and no other node
abbrev pub of_list : Kind → ℕ → ℕ
of_list statements calls = calls
of_list k calls = 0

abbrev pub calls_listed : Forest → ℕ
calls_listed (node k n below rest) = of_list k (calls_in below)
calls_listed t = 0

-- what a program has, and no other node
abbrev pub of_program : Kind → ℕ → ℕ
of_program (program source_type) calls = calls
of_program k calls = 0

abbrev pub root_calls : Forest → ℕ
root_calls (node k n below rest) = of_program k (calls_listed below)
root_calls t = 0
