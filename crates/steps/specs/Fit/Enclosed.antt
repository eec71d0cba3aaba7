-- Which trees declare names where the table of nodes lets them be declared: nothing lies below a value or a name that is read, a
-- function and a class begin with their name, if they have one, and what lies in them declares nothing around them.
use Rattle.std.specs.Prelude.{ℕ, suc, ◌==◌, Bool, true, false, not, ◌&&◌, if◌then◌else◌}
use Rattle.js_syntax.specs.declared.node_kind.NodeKind.{NodeKind as Kind}
use Rattle.js_syntax.specs.declared.node_kind.NodeKind.TheVariants.{Program as program, Function as function, Class as class, StaticBlock as static_block, CatchClause as catch_clause, VariableDeclaration as variable_declaration, ImportDeclaration as import_declaration, BindingName as binding_name, ReferenceName as reference_name, Literal as literal, RegExp as reg_exp, ThisExpression as this_expression, NewTarget as new_target, Hole as hole, TemplateElement as template_element}
use Rattle.js_syntax.specs.declared.kind.VariableKind.TheVariants as variable
use Rattle.js_syntax.specs.Node.{Forest, nothing, node, absent}
use Rattle.steps.specs.Allowed.Arranged.{is_nothing}

abbrev pub is_binding : Kind → Bool
is_binding (binding_name x) = true
is_binding k = false

abbrev pub is_var : Kind → Bool
is_var (variable_declaration variable.Var) = true
is_var k = false

-- whether a name at this place below the node is declared as a name at the node's own place is
abbrev pub inherits : Kind → (at : ℕ) → Bool
inherits (function how pure) at = if at == 0 then false else if at == 1 then false else true
inherits (class how) at = if at == 0 then false else true
inherits catch_clause at = if at == 0 then false else true
inherits (variable_declaration how) at = false
inherits (import_declaration source) at = false
inherits k at = true

-- whether a `var` there is declared as one at the node's own place is
abbrev pub passes : Kind → (at : ℕ) → Bool
passes (program source) at = false
passes (function how pure) at = if at == 0 then true else false
passes static_block at = false
passes k at = true

-- Of a row: no `var` is declared around it at the places of the one sort, and no name at those of the other.
abbrev pub closed : (vars names : ℕ → Bool) → (at : ℕ) → Forest → Bool
closed vars names at nothing = true
closed vars names at (absent rest) = closed vars names (suc at) rest
closed vars names at (node k n below rest) =
    not (names at && is_binding k)
    && (not (vars at && is_var k) && (closed (λ i. vars at && passes k i) (λ i. names at && inherits k i) 0 below && closed vars names (suc at) rest))

abbrev pub is_name : Kind → (below : Forest) → Bool
is_name (binding_name x) below = is_nothing below
is_name k below = false

abbrev pub begins_with_name : Forest → Bool
begins_with_name (node k n below rest) = is_name k below
begins_with_name t = true

abbrev pub none : ℕ → Bool
none at = false

abbrev pub is_enclosed_at : Kind → (below : Forest) → Bool
is_enclosed_at (function how pure) below = begins_with_name below && closed none (inherits (function how pure)) 0 below
is_enclosed_at (class how) below = begins_with_name below && closed (inherits (class how)) (inherits (class how)) 0 below
is_enclosed_at (literal v) below = is_nothing below
is_enclosed_at (reg_exp x) below = is_nothing below
is_enclosed_at this_expression below = is_nothing below
is_enclosed_at new_target below = is_nothing below
is_enclosed_at hole below = is_nothing below
is_enclosed_at (template_element written tail) below = is_nothing below
is_enclosed_at (reference_name x) below = is_nothing below
is_enclosed_at k below = true

abbrev pub is_enclosed : Forest → Bool
is_enclosed nothing = true
is_enclosed (absent rest) = is_enclosed rest
is_enclosed (node k n below rest) = is_enclosed_at k below && (is_enclosed below && is_enclosed rest)
