-- Which nodes the pass over dead code takes out or changes: what does nothing, and what nobody uses.
use Rattle.std.specs.Prelude.{ℕ, ◌==◌, List, [], ◌∷◌, length, Bool, true, false, not, ◌&&◌, ◌||◌, Option, Some, None, if◌then◌else◌}
use Rattle.js_syntax.specs.declared.node_kind.NodeKind.{NodeKind as Kind}
use Rattle.js_syntax.specs.declared.node_kind.NodeKind.TheVariants.{EmptyStatement as empty_statement, BlockStatement as block_statement, LabeledStatement as labeled_statement, ExpressionStatement as expression_statement, Function as function, VariableDeclaration as variable_declaration, VariableDeclarator as variable_declarator, Declarators as declarators, BindingName as binding_name}
use Rattle.js_syntax.specs.declared.kind.FunctionKind.TheVariants as function_kind
use Rattle.js_syntax.specs.declared.kind.VariableKind.{VariableKind}
use Rattle.js_syntax.specs.declared.kind.VariableKind.TheVariants as variable
use Rattle.js_syntax.specs.Node.{Forest, Tree, Note, nothing, node, absent}
use Rattle.js_effects.specs.declared.surroundings.Surroundings.{Surroundings}
use Rattle.js_effects.specs.Silence.{is_marked, may_have_effects}
use Rattle.min_context.specs.Ancestry.{nearest}
use Rattle.min_context.specs.Place.{Place}
use Rattle.min_context.specs.declared.ancestor.Ancestor.{Ancestor}
use Rattle.min_context.specs.declared.ancestor.Ancestor.TheVariants.{Field as field}
use Rattle.min_context.specs.declared.ancestor.Parent.{Parent}
use Rattle.min_context.specs.declared.ancestor.Parent.TheVariants as parent
use Rattle.min_pass.specs.Pass.{is_given, unmarked}
use Rattle.scope_rules.specs.ScopeFlags as scope_flag
use Rattle.scope_rules.specs.Table.{Scoping}
use Rattle.scope_table.specs.Reading.{symbol_at}
use Rattle.steps.specs.Allowed.Branches.{declares_no_name}
use Rattle.steps.specs.Allowed.EmptyBlock.{idles}
use Rattle.steps.specs.Allowed.IdleBody.{is_idle_statement}
use Rattle.steps.specs.Allowed.Silent.{inside_of}
use Rattle.steps.specs.Allowed.ValueStays.{may_be_stated}
use Rattle.steps.specs.Marked.Flags.{scope_has, is_sloppy_block}

-- What is known of the program: its table; of each reference by its id, whether it has a symbol; of each symbol by its number,
-- whether an exported declaration declares it; and whether the program is a script. And what is asked for: whether what nobody uses is
-- kept, or of that the names of imports.
pub record Facts : Type 0 where
  pub scoping : Scoping
  pub bound : List Bool
  pub exported : List Bool
  pub is_script : Bool
  pub keeps_unused : Bool
  pub keeps_imports : Bool

-- and of a place: the numbers of the innermost scope and of that in which `var` declares, and whether a `with` statement and a class are
-- around
pub record Where : Type 0 where
  pub scope : ℕ
  pub hoist_scope : ℕ
  pub in_with : Bool
  pub in_class : Bool

abbrev pub is_field_of_with : Ancestor → Bool
is_field_of_with (field parent.WithStatement at) = true
is_field_of_with a = false

abbrev pub has_with : List Ancestor → Bool
has_with [] = false
has_with (a ∷ above) = is_field_of_with a || has_with above

abbrev pub is_field_of_class : Ancestor → Bool
is_field_of_class (field (parent.Class previous) at) = true
is_field_of_class a = false

abbrev pub has_class : List Ancestor → Bool
has_class [] = false
has_class (a ∷ above) = is_field_of_class a || has_class above

abbrev pub where_of : Place → Where
where_of p = record { scope = p.scope; hoist_scope = p.hoist_scope; in_with = has_with p.ancestors; in_class = has_class p.ancestors }

abbrev pub surroundings_of : Where → Surroundings
surroundings_of w = inside_of w.in_class w.in_with

-- what these ancestors tell
abbrev pub surroundings_below : List Ancestor → Surroundings
surroundings_below above = inside_of (has_class above) (has_with above)

-- ---- names

-- nothing of the program refers to the symbol, and it exports none of its declarations (ECMA-262 16.2.3); where that is kept, no symbol
-- counts as such
abbrev pub is_unlisted : Facts → (symbol : Option ℕ) → Bool
is_unlisted f None = false
is_unlisted f (Some n) = not f.keeps_unused && (length (symbol_at f.scoping n).references == 0 && not (is_marked f.exported (Some n)))

-- other scripts may use the names of a script's own scope (16.1.7)
abbrev pub is_global : Facts → (scope : ℕ) → Bool
is_global f scope = f.is_script && scope == 0

-- A direct call of `eval` may use any name of the scopes around it (19.2.1.1), and a function that is declared in a block of
-- code that isn't strict is a variable of the function around as well (B.3.2).
abbrev pub function_is_unused : Facts → Where → (symbol : Option ℕ) → Bool
function_is_unused f w symbol = is_unlisted f symbol && not (is_global f w.scope || scope_has f.scoping w.scope scope_flag.direct_eval || is_sloppy_block f.scoping w.scope)

-- Of variables no call of `eval` may be anywhere in the program, whose scope is the first.
abbrev pub variable_is_unused : Facts → (scope : ℕ) → (symbol : Option ℕ) → Bool
variable_is_unused f scope symbol = is_unlisted f symbol && not (is_global f scope || scope_has f.scoping 0 scope_flag.direct_eval)

-- where a declaration declares (14.3)
abbrev pub scope_of : Where → VariableKind → ℕ
scope_of w variable.Var = w.hoist_scope
scope_of w how = w.scope

-- ---- declarators

-- To initialise it does nothing. Inside of a `with` statement an initialiser may set a property of its object (14.3.2).
abbrev pub is_quiet : Facts → Where → (value : Forest) → Bool
is_quiet f w value = not (may_have_effects f.bound (surroundings_of w) value || w.in_with && is_given value)

abbrev pub declarator_goes : Facts → Where → VariableKind → Kind → (below : Forest) → Bool
declarator_goes f w how variable_declarator (node (binding_name x) n inner value) = variable_is_unused f (scope_of w how) n.id && is_quiet f w value
declarator_goes f w how k below = false

abbrev pub one_goes : Facts → Where → VariableKind → Forest → Bool
one_goes f w how nothing = false
one_goes f w how (absent rest) = one_goes f w how rest
one_goes f w how (node k n below rest) = declarator_goes f w how k below || one_goes f w how rest

abbrev pub one_stays : Facts → Where → VariableKind → Forest → Bool
one_stays f w how nothing = false
one_stays f w how (absent rest) = one_stays f w how rest
one_stays f w how (node k n below rest) = not (declarator_goes f w how k below) || one_stays f w how rest

abbrev pub declarators_left : Facts → Where → VariableKind → Forest → Forest
declarators_left f w how nothing = nothing
declarators_left f w how (absent rest) = absent (declarators_left f w how rest)
declarators_left f w how (node k n below rest) = if declarator_goes f w how k below then declarators_left f w how rest else node k n below (declarators_left f w how rest)

-- ---- items of a list of statements

abbrev pub declaration_goes : Facts → Where → VariableKind → (below : Forest) → Bool
declaration_goes f w how (node declarators n ds rest) = one_goes f w how ds && not (one_stays f w how ds)
declaration_goes f w how below = false

abbrev pub is_silent_statement : Facts → Where → Kind → (below : Forest) → Bool
is_silent_statement f w expression_statement below = not (may_have_effects f.bound (surroundings_of w) below)
is_silent_statement f w k below = false

abbrev pub function_goes : Facts → Where → (below : Forest) → Bool
function_goes f w (node (binding_name x) n inner rest) = function_is_unused f w n.id
function_goes f w below = false

abbrev pub item_goes : Facts → Where → Kind → (below : Forest) → Bool
item_goes f w empty_statement below = true
item_goes f w block_statement below = idles below
item_goes f w (labeled_statement label) below = idles below
item_goes f w expression_statement below = is_silent_statement f w expression_statement below
item_goes f w (function function_kind.Declaration pure) below = function_goes f w below
item_goes f w (variable_declaration how) below = declaration_goes f w how below
item_goes f w k below = false

-- ---- what is left

-- of a declaration that stays, by what lies below it
abbrev pub declaration_left : Facts → Where → VariableKind → (below : Forest) → Forest
declaration_left f w how (node declarators n ds rest) = node declarators n (declarators_left f w how ds) rest
declaration_left f w how below = below

abbrev pub item_left : Facts → Where → Kind → (below : Forest) → Forest
item_left f w (variable_declaration how) below = declaration_left f w how below
item_left f w k below = below

-- of a list of statements, all of which stand at the place
abbrev pub trimmed : Facts → Where → Forest → Forest
trimmed f w nothing = nothing
trimmed f w (absent rest) = absent (trimmed f w rest)
trimmed f w (node k n below rest) = if item_goes f w k below then trimmed f w rest else node k n (item_left f w k below) (trimmed f w rest)

-- whether anything of it goes
abbrev pub declaration_has_dead : Facts → Where → VariableKind → (below : Forest) → Bool
declaration_has_dead f w how (node declarators n ds rest) = one_goes f w how ds
declaration_has_dead f w how below = false

abbrev pub item_has_dead : Facts → Where → Kind → (below : Forest) → Bool
item_has_dead f w (variable_declaration how) below = declaration_has_dead f w how below
item_has_dead f w k below = item_goes f w k below

abbrev pub has_dead : Facts → Where → Forest → Bool
has_dead f w nothing = false
has_dead f w (absent rest) = has_dead f w rest
has_dead f w (node k n below rest) = item_has_dead f w k below || has_dead f w rest

-- ---- statements that become empty

-- statements right below which a statement stands, and no list of them
abbrev pub has_body_under : Parent → Bool
has_body_under parent.IfStatement = true
has_body_under parent.WithStatement = true
has_body_under parent.WhileStatement = true
has_body_under parent.DoWhileStatement = true
has_body_under parent.ForStatement = true
has_body_under parent.ForInStatement = true
has_body_under parent.ForOfStatement = true
has_body_under p = false

abbrev pub is_body_under : Ancestor → Bool
is_body_under (field p at) = has_body_under p
is_body_under a = false

abbrev pub is_body : Place → Bool
is_body p = is_body_under (nearest p.ancestors 0)

-- one that does nothing and declares no name around it, as a branch or a body
abbrev pub is_idle_body : Place → Kind → (below : Forest) → Bool
is_idle_body p k below = is_body p && (is_idle_statement k below && declares_no_name k below)

-- and a silent one, wherever it stands
abbrev pub becomes_empty : Facts → Place → Kind → (below : Forest) → Bool
becomes_empty f p k below = is_silent_statement f (where_of p) k below || is_idle_body p k below

abbrev pub emptied : Facts → Place → Tree → Option Tree
emptied f p x = if becomes_empty f p x.kind x.below then Some (record { kind = empty_statement; note = unmarked x.note; below = nothing }) else None

-- ---- declarations that become statements of their values

abbrev pub is_item_under : Ancestor → Bool
is_item_under (field parent.Statements at) = true
is_item_under a = false

-- an item of a list of statements
abbrev pub is_item : Place → Bool
is_item p = is_item_under (nearest p.ancestors 0)

-- nothing uses the name that a declarator declares
abbrev pub name_is_unused : Facts → (scope : ℕ) → Kind → Note → (below : Forest) → Bool
name_is_unused f scope (binding_name x) n nothing = variable_is_unused f scope n.id
name_is_unused f scope k n below = false

-- of what lies below it: and a statement may begin with the value
abbrev pub value_stays : Facts → (scope : ℕ) → (parts : Forest) → Bool
value_stays f scope (node t n a (node k i b nothing)) = name_is_unused f scope t n a && may_be_stated k b
value_stays f scope parts = false

abbrev pub value_of_stays : Facts → (scope : ℕ) → Kind → (parts : Forest) → Bool
value_of_stays f scope variable_declarator parts = value_stays f scope parts
value_of_stays f scope k parts = false

-- it is the only declarator
abbrev pub value_of_one_stays : Facts → (scope : ℕ) → (ds : Forest) → Bool
value_of_one_stays f scope (node k n parts nothing) = value_of_stays f scope k parts
value_of_one_stays f scope ds = false

abbrev pub value_in_stays : Facts → (scope : ℕ) → Kind → (ds : Forest) → Bool
value_in_stays f scope declarators ds = value_of_one_stays f scope ds
value_in_stays f scope k ds = false

abbrev pub value_of_list_stays : Facts → (scope : ℕ) → (below : Forest) → Bool
value_of_list_stays f scope (node k n ds nothing) = value_in_stays f scope k ds
value_of_list_stays f scope below = false

-- Inside of a `with` statement the value may be that of a property of its object (14.3.2).
abbrev pub becomes_stated : Facts → Place → Kind → (below : Forest) → Bool
becomes_stated f p (variable_declaration how) below = is_item p && (not (where_of p).in_with && value_of_list_stays f (scope_of (where_of p) how) below)
becomes_stated f p k below = false

-- what lies below the first node of a row, and what stands behind it
abbrev pub below_first : Forest → Forest
below_first (node k n below rest) = below
below_first t = nothing

abbrev pub behind_first : Forest → Forest
behind_first nothing = nothing
behind_first (absent rest) = rest
behind_first (node k n below rest) = rest

-- the value, behind the name in the only declarator of the list
abbrev pub value_below : (below : Forest) → Forest
value_below below = behind_first (below_first (below_first below))

abbrev pub stated : Facts → Place → Tree → Option Tree
stated f p x = if becomes_stated f p x.kind x.below then Some (record { kind = expression_statement; note = unmarked x.note; below = value_below x.below }) else None
