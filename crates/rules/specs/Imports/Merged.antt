-- Which imports of a program's list come together: each goes into the first one before it that asks for its module and can take its names.
use Rattle.std.specs.Prelude.{List, [], ◌∷◌, ℕ, Bool, true, false, not, ◌&&◌, ◌||◌, Option, Some, None, if◌then◌else◌}
use Rattle.std.specs.Str.{bytes_eq}
use Rattle.js_syntax.specs.declared.node_kind.NodeKind.{NodeKind as Kind}
use Rattle.js_syntax.specs.declared.node_kind.NodeKind.TheVariants.{Program as program, Statements as statements, ImportDeclaration as import_declaration, Specifiers as specifiers}
use Rattle.js_syntax.specs.declared.scalar.SourceType.TheVariants as source_type
use Rattle.js_syntax.specs.Node.{Forest, Tree, nothing, node, absent, joined}
use Rattle.min_context.specs.Place.{Place}
use Rattle.min_context.specs.declared.ancestor.Ancestor.{Ancestor}
use Rattle.scope_rules.specs.ScopeFlags as scope_flag
use Rattle.steps.specs.Allowed.MergedImports.{names_merged, may_merge}
use Rattle.steps.specs.Marked.Flags.{scope_has}
use Rattle.rules.specs.DeadCode.Rules.{Facts}

-- whether an item takes the names of a later import of a module
abbrev pub takes : (source : List ℕ) (later : Forest) → Kind → (below : Forest) → Bool
takes source later (import_declaration other) (node specifiers m names nothing) = bytes_eq other source && may_merge names later
takes source later k below = false

-- what lies below it then
abbrev pub with_names : (later below : Forest) → Forest
with_names later (node specifiers m names nothing) = node specifiers m (names_merged names later) nothing
with_names later below = below

-- whether one of the items does, and the items then
abbrev pub is_taken : (source : List ℕ) (later before : Forest) → Bool
is_taken source later nothing = false
is_taken source later (absent rest) = false
is_taken source later (node k n below rest) = takes source later k below || is_taken source later rest

abbrev pub taken : (source : List ℕ) (later before : Forest) → Forest
taken source later nothing = nothing
taken source later (absent rest) = absent rest
taken source later (node k n below rest) = if takes source later k below then node k n (with_names later below) rest else node k n below (taken source later rest)

-- an item behind others: whether it goes, and those others then
abbrev pub goes : (before : Forest) → Kind → (below : Forest) → Bool
goes before (import_declaration source) (node specifiers m names nothing) = is_taken source names before
goes before k below = false

abbrev pub given : (before : Forest) → Kind → (below : Forest) → Forest
given before (import_declaration source) (node specifiers m names nothing) = taken source names before
given before k below = before

-- items behind others: whether one goes, and what is left of all
abbrev pub one_goes : (before items : Forest) → Bool
one_goes before nothing = false
one_goes before (absent rest) = false
one_goes before (node k n below rest) = goes before k below || one_goes (joined before (node k n below nothing)) rest

abbrev pub together : (before items : Forest) → Forest
together before nothing = before
together before (absent rest) = joined before (absent rest)
together before (node k n below rest) = together (if goes before k below then given before k below else joined before (node k n below nothing)) rest

-- ---- of a module, in its own list, unless a direct call of `eval` is anywhere in it (ECMA-262 19.2.1.1)

abbrev pub list_together : (below : Forest) → Option Forest
list_together (node statements m items nothing) = if one_goes nothing items then Some (node statements m (together nothing items) nothing) else None
list_together below = None

abbrev pub below_together : Kind → (below : Forest) → Option Forest
below_together (program source_type.Module) below = list_together below
below_together k below = None

abbrev pub with_below : Tree → Option Forest → Option Tree
with_below x None = None
with_below x (Some below) = Some (record { kind = x.kind; note = x.note; below = below })

-- no node is above
abbrev pub is_outermost : List Ancestor → Bool
is_outermost [] = true
is_outermost (a ∷ above) = false

abbrev pub come_together : Facts → Place → Tree → Option Tree
come_together f p x = if is_outermost p.ancestors && not (scope_has f.scoping 0 scope_flag.direct_eval) then with_below x (below_together x.kind x.below) else None
