-- The rules, tried on small programs.
use Rattle.std.specs.Prelude.{ℕ, suc, ◌==◌, List, [], ◌∷◌, map, Bool, true, false, not, ◌&&◌, ◌||◌, is_some, Option, Some}
use Rattle.js_syntax.specs.declared.node_kind.NodeKind.{NodeKind as Kind}
use Rattle.js_syntax.specs.declared.kind.VariableKind.{VariableKind}
use Rattle.js_syntax.specs.declared.kind.VariableKind.TheVariants as variable
use Rattle.js_syntax.specs.Node.{Forest, Tree, nothing, node, absent, joined, bare, forest_of}
use Rattle.form_rules.specs.Samples.{over, row, listed, a, binds, reads, one, calls}
use Rattle.scope_rules.specs.Samples.{b}
use Rattle.scope_rules.specs.Table.{Reference}
use Rattle.scope_counts.specs.Tried.{with_marks}
use Rattle.steps.specs.Allowed.Exposure.{is_script}
use Rattle.steps.specs.Marked.Samples.{table_of}
use Rattle.scope_rules.specs.ScopeFlags as scope_flag
use Rattle.scope_rules.specs.Samples.{Row}
use Rattle.scope_rules.specs.Table.{Scoping}
use Rattle.steps.specs.Allowed.Exposure.{Exposure}
use Rattle.steps.specs.Marked.Flags.{scope_has, is_sloppy_block, Stand, stand_inside, stands_of}
use Rattle.min_context.specs.Place.{Place}
use Rattle.min_traverse.specs.Lawful.{or_same}
use Rattle.min_context.specs.declared.ancestor.Ancestor.TheVariants.{Field as field}
use Rattle.min_context.specs.declared.ancestor.Parent.{Parent}
use Rattle.min_context.specs.declared.ancestor.Parent.TheVariants as parent
use Rattle.rules.specs.DeadCode.Rules.{Facts, Where, trimmed, becomes_empty, stated}

-- by its own table, and what is exported, where nothing is kept
abbrev pub facts_of : (exported : List Bool) → Forest → Facts
facts_of exported t = record { scoping = table_of t; bound = map (λ (r : Reference). is_some r.symbol) (table_of t).references; exported = exported; is_script = is_script t; keeps_unused = false; keeps_imports = false }

-- the items of the list that a node begins with
abbrev pub items_of : Forest → Forest
items_of (node k n (node l m items r) rest) = items
items_of t = nothing

abbrev pub at_top : Where
at_top = record { scope = 0; hoist_scope = 0; in_with = false; in_class = false }

-- in the first block of a program
abbrev pub in_block : Where
in_block = record { scope = 1; hoist_scope = 0; in_with = false; in_class = false }

abbrev pub in_with : Where
in_with = record { scope = 0; hoist_scope = 0; in_with = true; in_class = false }

-- what is left of a program's items, and of those of a block which is its first item
abbrev pub left_at : Where → (exported : List Bool) → Forest → Forest
left_at w exported t = bare (trimmed (facts_of exported t) w (items_of (with_marks t)))

abbrev pub left : Forest → Forest
left t = left_at at_top [] t

abbrev pub left_in_block : Forest → Forest
left_in_block t = bare (trimmed (facts_of [] t) in_block (items_of (items_of (with_marks t))))

abbrev pub these : List Forest → Forest
these items = bare (row items)

abbrev pub declarator : Forest → Forest → Forest
declarator target value = over Kind.VariableDeclarator (joined target value)

abbrev pub declares_each : VariableKind → List Forest → Forest
declares_each how ds = over (Kind.VariableDeclaration how) (listed Kind.Declarators ds)

-- let a = 1;
abbrev pub let_one : Forest
let_one = declares_each variable.Let (declarator (binds a) one ∷ [])

-- ---- what becomes empty

-- right below a node, whose child it is
abbrev pub right_below : Parent → (at : ℕ) → Place
right_below p at = record { ancestors = field p at ∷ []; scope = 0; hoist_scope = 0; block_scope = 0 }

abbrev pub as_body : Place
as_body = right_below parent.WhileStatement 1

-- whether the one statement becomes empty, where nothing is known of names
abbrev pub empties : Place → Forest → Bool
empties p (node k n below rest) = becomes_empty (facts_of [] nothing) p k below
empties p t = false

-- ---- what becomes a statement of a value

abbrev pub as_item : Place
as_item = right_below parent.Statements 0

-- as an item of a list in a `with` statement
abbrev pub as_item_in_with : Place
as_item_in_with = record { ancestors = field parent.WithStatement 1 ∷ field parent.Statements 0 ∷ []; scope = 0; hoist_scope = 0; block_scope = 0 }

abbrev pub first_left : Facts → Place → (items : Forest) → Forest
first_left f p (node k n below rest) = let x : Tree = record { kind = k; note = n; below = below } in bare (forest_of (or_same x (stated f p x)))
first_left f p t = t

-- what becomes of the first item of a program
abbrev pub first_at : Place → (exported : List Bool) → Forest → Forest
first_at p exported t = first_left (facts_of exported t) p (items_of (with_marks t))

-- a = f() in a declaration, where nothing declares f
abbrev pub takes_call : VariableKind → Forest
takes_call how = declares_each how (declarator (binds a) (calls (reads b)) ∷ [])

-- ---- whether flags tell only what is so

abbrev pub implies : Bool → Bool → Bool
implies b c = not b || c

abbrev pub numbers_tell_only : Scoping → (script : Bool) → Exposure → (scope variables : Option ℕ) → Bool
numbers_tell_only s script e (Some n) (Some v) =
    implies (scope_has s n scope_flag.direct_eval) e.evaluates && (implies (is_sloppy_block s n) e.in_sloppy_block && (implies (script && n == 0) e.names_shared && implies (script && v == 0) e.variables_shared))
numbers_tell_only s script e n v = false

abbrev pub is_told_only : Scoping → (script : Bool) → (stands : ℕ → Stand) → (at : ℕ) → Forest → Bool
is_told_only s script ps at nothing = true
is_told_only s script ps at (absent rest) = is_told_only s script ps (suc at) rest
is_told_only s script ps at (node k n below rest) =
    numbers_tell_only s script (ps at).exposure (ps at).scope (ps at).variables && (is_told_only s script (stand_inside (ps at) k n below) 0 below && is_told_only s script ps (suc at) rest)

abbrev pub do_flags_tell_only : Scoping → Forest → Bool
do_flags_tell_only s t = is_told_only s (is_script t) (stands_of t) 0 t

-- by their own tables
abbrev pub new_flags_tell_only : List Row → List Bool
new_flags_tell_only rows = map (λ (r : Row). do_flags_tell_only (table_of r.tree) (with_marks r.tree)) rows
