-- Whether a change may be allowed somewhere, as far as places, exposure and calls tell: whether something is silent or referred to
-- isn't asked.
use Rattle.std.specs.Prelude.{ℕ, suc, Bool, true, false, not, ◌&&◌, ◌||◌}
use Rattle.js_syntax.specs.declared.node_kind.NodeKind.{NodeKind as Kind}
use Rattle.js_syntax.specs.declared.node_kind.NodeKind.TheVariants.{EmptyStatement as empty_statement, ExpressionStatement as expression_statement, Function as function, VariableDeclaration as variable_declaration, VariableDeclarator as variable_declarator, Program as program, Statements as statements, Declarators as declarators, Parameters as parameters, FunctionBody as function_body, BlockStatement as block_statement, CallExpression as call_expression, Arguments as arguments, BindingName as binding_name, ReferenceName as reference_name, Literal as literal}
use Rattle.js_syntax.specs.declared.kind.FunctionKind.TheVariants as function_kind
use Rattle.js_syntax.specs.Node.{Forest, nothing, node, absent}
use Rattle.min_pass.specs.declared.around.Around.{Around as Asked}
use Rattle.min_pass.specs.declared.around.Row.{Row}
use Rattle.min_pass.specs.declared.around.Row.TheVariants.{Items as items, Declarators as item_declarators}
use Rattle.min_pass.specs.Around.{entered as asked_below, outermost as asked_of_program}
use Rattle.js_meaning_near.specs.Near.{cuts_off}
use Rattle.steps.specs.Allowed.Calls.{begins_with_call}
use Rattle.steps.specs.Allowed.EmptyBlock.{idles}
use Rattle.steps.specs.Allowed.Places.{has_node}
use Rattle.steps.specs.Allowed.Exposure.{Exposure, exposed_inside, exposed_of, shares, function_is_exposed, evaluates_somewhere}

abbrev pub holds_items : Row → Bool
holds_items items = true
holds_items row = false

abbrev pub holds_declarators : Row → Bool
holds_declarators item_declarators = true
holds_declarators row = false

-- kinds of which no edit makes anything, and which none takes out of a list
abbrev pub always_stays : Kind → Bool
always_stays (program source) = true
always_stays statements = true
always_stays declarators = true
always_stays parameters = true
always_stays function_body = true
always_stays (call_expression pure optional) = true
always_stays arguments = true
always_stays (binding_name x) = true
always_stays (reference_name x) = true
always_stays (literal v) = true
always_stays k = false

-- Of a node; `evaluates` says whether the program has a direct call of `eval` somewhere.
abbrev pub may_change_at : (evaluates : Bool) → Asked → Exposure → Kind → (below : Forest) → Bool
may_change_at evaluates w e empty_statement below = holds_items w.row
may_change_at evaluates w e expression_statement below = not (begins_with_call below)
may_change_at evaluates w e block_statement below = holds_items w.row && idles below
may_change_at evaluates w e (function function_kind.Declaration pure) below = holds_items w.row && not (function_is_exposed e)
may_change_at evaluates w e variable_declarator below = holds_declarators w.row && not (e.declared_shared || evaluates)
may_change_at evaluates w e (variable_declaration how) below = holds_items w.row && not (shares e how || evaluates)
may_change_at evaluates w e k below = not (always_stays k)

-- whether something stands behind a jump, or what cuts off as one does, in a list of statements
abbrev pub ends_before : Row → Kind → (below rest : Forest) → Bool
ends_before row k below rest = holds_items row && (cuts_off k below && has_node rest)

-- of a row
abbrev pub may_change : (evaluates : Bool) → Asked → (exposures : ℕ → Exposure) → (at : ℕ) → Forest → Bool
may_change evaluates w es at nothing = false
may_change evaluates w es at (absent rest) = may_change evaluates w es (suc at) rest
may_change evaluates w es at (node k n below rest) =
    may_change_at evaluates w (es at) k below || may_change evaluates (asked_below w k) (exposed_inside (es at) k below) 0 below || (ends_before w.row k below rest || may_change evaluates w es (suc at) rest)

-- of a whole tree
abbrev pub may_change_somewhere : Forest → Bool
may_change_somewhere t = may_change (evaluates_somewhere t) (asked_of_program true) (exposed_of t) 0 t
