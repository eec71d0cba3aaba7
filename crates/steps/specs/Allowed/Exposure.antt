-- Who may use the names that a place declares beside the references of the tree: code that a direct call of `eval` is given
-- (ECMA-262 19.2.1.1), other scripts (16.1.7), and the function around a block of code that isn't strict (B.3.2).
use Rattle.std.specs.Prelude.{◌≡◌, ℕ, suc, Bool, true, false, not, ◌&&◌, ◌||◌, ◌==◌, Option, if◌then◌else◌}
use Rattle.js_syntax.specs.declared.node_kind.NodeKind.{NodeKind as Kind}
use Rattle.js_syntax.specs.declared.node_kind.NodeKind.TheVariants.{Program as program, Function as function, Class as class, PropertyDefinition as property_definition, StaticBlock as static_block, BlockStatement as block_statement, WithStatement as with_statement, SwitchStatement as switch_statement, CatchClause as catch_clause, ForStatement as for_statement, ForInStatement as for_in_statement, ForOfStatement as for_of_statement, VariableDeclaration as variable_declaration, ImportDeclaration as import_declaration}
use Rattle.js_syntax.specs.declared.kind.FunctionKind.{FunctionKind}
use Rattle.js_syntax.specs.declared.kind.FunctionKind.TheVariants as function_kind
use Rattle.js_syntax.specs.declared.kind.ClassKind.{ClassKind}
use Rattle.js_syntax.specs.declared.kind.ClassKind.TheVariants as class_kind
use Rattle.js_syntax.specs.declared.kind.VariableKind.{VariableKind}
use Rattle.js_syntax.specs.declared.kind.VariableKind.TheVariants as variable
use Rattle.js_syntax.specs.declared.scalar.SourceType.{SourceType}
use Rattle.js_syntax.specs.declared.scalar.SourceType.TheVariants as source_type
use Rattle.js_syntax.specs.Node.{Forest, Tree, node, below_of}
use Rattle.form_rules.specs.Context.{is_module, is_strict_list, is_strict_function}
use Rattle.scope_rules.specs.Context.{has_second}
use Rattle.scope_rules.specs.Site.{has_eval, scope_row}
use Rattle.scope_laws.specs.Place.{Around, first, behind, behind_none, under, plug}

pub record Exposure : Type 0 where
  -- no program is around
  pub outside : Bool
  pub strict : Bool
  -- what `var` declares here is a script's own; so is what `let`, classes and functions declare; and what the declaration
  -- around declares
  pub variables_shared : Bool
  pub names_shared : Bool
  pub declared_shared : Bool
  -- a direct call of `eval` lies in the innermost scope
  pub evaluates : Bool
  -- which is a block of code that is not strict
  pub in_sloppy_block : Bool

-- in the code of a program, function or static block
abbrev pub in_code : Exposure → (shared strict : Bool) → (row : Forest) → Exposure
in_code e shared strict row =
    record { outside = false; strict = strict; variables_shared = shared; names_shared = shared; declared_shared = e.declared_shared; evaluates = has_eval row; in_sloppy_block = false }

-- in a scope through which `var` passes
abbrev pub in_block : Exposure → (strict : Bool) → (row : Forest) → Exposure
in_block e strict row =
    record { outside = e.outside; strict = strict; variables_shared = e.variables_shared; names_shared = false; declared_shared = e.declared_shared; evaluates = has_eval row; in_sloppy_block = not strict }

-- below a declaration
abbrev pub declaring : Exposure → (shared : Bool) → Exposure
declaring e shared =
    record { outside = e.outside; strict = e.strict; variables_shared = e.variables_shared; names_shared = e.names_shared; declared_shared = shared; evaluates = e.evaluates; in_sloppy_block = e.in_sloppy_block }

abbrev pub shares : Exposure → VariableKind → Bool
shares e variable.Var = e.variables_shared
shares e how = e.names_shared

abbrev pub is_script_source : SourceType → Bool
is_script_source source_type.Script = true
is_script_source t = false

-- a declaration's name lies in the scope around it, and an expression's in its own
abbrev pub at_function_name : Exposure → FunctionKind → Exposure
at_function_name e function_kind.Declaration = declaring e e.names_shared
at_function_name e how = declaring e false

abbrev pub at_class_name : Exposure → ClassKind → Exposure
at_class_name e class_kind.Declaration = declaring e e.names_shared
at_class_name e class_kind.Expression = declaring e false

-- at the child at a place below a node
abbrev pub exposed_inside : Exposure → Kind → (below : Forest) → (at : ℕ) → Exposure
exposed_inside e (program source) below at = in_code e (e.outside && is_script_source source) (is_module source || is_strict_list below) below
exposed_inside e (function how pure) below at =
    if at == 0 then at_function_name e how else if at == 1 then declaring (in_code e false (e.strict || is_strict_function below) below) false else in_code e false (e.strict || is_strict_function below) below
exposed_inside e (class how) below at = if at == 0 then at_class_name e how else in_block e true below
exposed_inside e static_block below at = in_code e false e.strict below
exposed_inside e (property_definition is_static key) below at = if has_second below && at == 1 then in_block e e.strict (scope_row (property_definition is_static key) below) else e
exposed_inside e block_statement below at = in_block e e.strict below
exposed_inside e switch_statement below at = if at == 1 then in_block e e.strict (scope_row switch_statement below) else e
exposed_inside e with_statement below at = if at == 1 then in_block e e.strict (scope_row with_statement below) else e
exposed_inside e catch_clause below at = if at == 0 then declaring (in_block e e.strict below) false else in_block e e.strict below
exposed_inside e for_statement below at = in_block e e.strict below
exposed_inside e for_in_statement below at = in_block e e.strict below
exposed_inside e for_of_statement below at = in_block e e.strict below
exposed_inside e (variable_declaration how) below at = declaring e (shares e how)
exposed_inside e (import_declaration source) below at = declaring e e.names_shared
exposed_inside e k below at = e

-- at the program, which is the first of a row; what stands beside it is taken for a part of it
abbrev pub beside_program : (shared : Bool) → (below : Forest) → (at : ℕ) → Exposure
beside_program shared below at =
    record { outside = at == 0; strict = false; variables_shared = shared; names_shared = shared; declared_shared = shared; evaluates = has_eval below; in_sloppy_block = false }

abbrev pub is_script : Forest → Bool
is_script (node (program source) n below rest) = is_script_source source
is_script t = false

abbrev pub exposed_of : (t : Forest) → (at : ℕ) → Exposure
exposed_of t = beside_program (is_script t) (below_of t)

abbrev pub exposed_at : (ℕ → Exposure) → (at : ℕ) → Around → Option Tree → Exposure
exposed_at es at (first rest) x = es at
exposed_at es at (behind k n below a) x = exposed_at es (suc at) a x
exposed_at es at (behind_none a) x = exposed_at es (suc at) a x
exposed_at es at (under k n a rest) x = exposed_at (exposed_inside (es at) k (plug a x)) 0 a x

-- at a place of a whole tree
abbrev pub exposure : Around → Option Tree → Exposure
exposure a x = exposed_at (exposed_of (plug a x)) 0 a x

-- ---- names that nothing but the tree's references may use

abbrev pub function_is_exposed : Exposure → Bool
function_is_exposed e = e.names_shared || e.evaluates || e.in_sloppy_block

-- Of a variable the whole program is asked for calls of `eval`.
abbrev pub evaluates_somewhere : Forest → Bool
evaluates_somewhere t = has_eval (below_of t)

abbrev pub IsOwnFunction : Around → Option Tree → Type 0
IsOwnFunction a x = function_is_exposed (exposure a x) ≡ false

abbrev pub IsOwnDeclarator : Around → Option Tree → Type 0
IsOwnDeclarator a x = (exposure a x).declared_shared || evaluates_somewhere (plug a x) ≡ false

abbrev pub IsOwnDeclaration : VariableKind → Around → Option Tree → Type 0
IsOwnDeclaration how a x = shares (exposure a x) how || evaluates_somewhere (plug a x) ≡ false
