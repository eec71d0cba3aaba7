-- Which imports of a program's list become exports from the other module: each that a later export of names alone lists, and nothing else
-- refers to.
use Rattle.std.specs.Prelude.{ℕ, ◌==◌, List, codes, Bool, true, false, not, ◌&&◌, ◌||◌, Option, Some, None, is_some, if◌then◌else◌}
use Rattle.std.specs.List.{list_all}
use Rattle.std.specs.Str.{bytes_eq}
use Rattle.js_syntax.specs.declared.node_kind.NodeKind.{NodeKind as Kind}
use Rattle.js_syntax.specs.declared.node_kind.NodeKind.TheVariants.{Program as program, Statements as statements, ImportDeclaration as import_declaration, Specifiers as specifiers, ImportSpecifier as import_specifier, ImportDefaultSpecifier as import_default_specifier, ImportNamespaceSpecifier as import_namespace_specifier, BindingName as binding_name, ReferenceName as reference_name, ExportNamedDeclaration as export_named_declaration, ExportAllDeclaration as export_all_declaration, ExportSpecifier as export_specifier, ForeignSpecifier as foreign_specifier}
use Rattle.js_syntax.specs.declared.scalar.SourceType.TheVariants as source_type
use Rattle.js_syntax.specs.declared.value.ModuleName.{ModuleName}
use Rattle.js_syntax.specs.declared.value.ModuleName.TheVariants.{Name as plain_name}
use Rattle.js_syntax.specs.Node.{Forest, Note, Tree, nothing, node, absent, joined}
use Rattle.js_effects.specs.Silence.{is_marked}
use Rattle.json_shape.specs.Exact.{is_exact_module_name}
use Rattle.min_context.specs.Place.{Place}
use Rattle.scope_rules.specs.ScopeFlags as scope_flag
use Rattle.scope_table.specs.Reading.{symbol_at}
use Rattle.steps.specs.Allowed.PassedExports.{may_pass}
use Rattle.steps.specs.Marked.Flags.{scope_has}
use Rattle.rules.specs.DeadCode.Rules.{Facts}
use Rattle.rules.specs.Imports.Merged.{with_below, is_outermost}

-- ---- what is known of the names of an import

abbrev pub is_number : ℕ → Option ℕ → Bool
is_number id None = false
is_number id (Some other) = id == other

-- whether an export lists the reference
abbrev pub has_reference : (listed : Forest) → ℕ → Bool
has_reference nothing id = false
has_reference (absent rest) id = has_reference rest id
has_reference (node k n (node (reference_name y) m below beside) rest) id = is_number id m.id || has_reference rest id
has_reference (node k n below rest) id = has_reference rest id

-- the symbol lists none but those, and isn't exported by a declaration
abbrev pub is_passed_alone : Facts → (listed : Forest) → (symbol : Option ℕ) → Bool
is_passed_alone f listed None = false
is_passed_alone f listed (Some n) = not (is_marked f.exported (Some n)) && list_all (has_reference listed) (symbol_at f.scoping n).references

abbrev pub are_passed_alone : Facts → (listed names : Forest) → Bool
are_passed_alone f listed nothing = true
are_passed_alone f listed (absent rest) = are_passed_alone f listed rest
are_passed_alone f listed (node k n (node (binding_name x) m below beside) rest) = is_passed_alone f listed m.id && are_passed_alone f listed rest
are_passed_alone f listed (node k n below rest) = are_passed_alone f listed rest

-- ---- what an import and an export become

-- the export to which a name is bound, if the name of that is one
abbrev pub imported : Kind → Option ModuleName
imported (import_specifier name) = if is_exact_module_name name then Some name else None
imported import_default_specifier = Some (plain_name (codes "default"))
imported k = None

abbrev pub bound_in : (names : Forest) → List ℕ → Option ModuleName
bound_in nothing x = None
bound_in (absent rest) x = bound_in rest x
bound_in (node k n (node (binding_name y) m below beside) rest) x = if bytes_eq y x && is_some (imported k) then imported k else bound_in rest x
bound_in (node k n below rest) x = bound_in rest x

-- each listed name, from the other module
abbrev pub and_passed : (exported : ModuleName) (n : Note) → Option ModuleName → Option Forest → Option Forest
and_passed exported n (Some name) (Some rest) = Some (node (foreign_specifier name exported) n nothing rest)
and_passed exported n name rest = None

abbrev pub passed : (names listed : Forest) → Option Forest
passed names nothing = Some nothing
passed names (node (export_specifier exported) n (node (reference_name x) m nothing nothing) rest) = and_passed exported n (bound_in names x) (passed names rest)
passed names listed = None

-- a namespace alone, and under which name it is exported
abbrev pub namespace_passed : (names listed : Forest) → Option ModuleName
namespace_passed (node import_namespace_specifier n below nothing) (node (export_specifier exported) i (node (reference_name y) j nothing nothing) nothing) = Some exported
namespace_passed names listed = None

-- The export has the import's note, its names have those that they had in the other export, and their list that of the import's.
abbrev pub export_of : (source : List ℕ) (n m : Note) → Option ModuleName → Option Forest → Option Tree
export_of source n m (Some exported) list = Some (record { kind = export_all_declaration (Some exported) source; note = n; below = nothing })
export_of source n m None (Some list) = Some (record { kind = export_named_declaration (Some source); note = n; below = absent (node specifiers m list nothing) })
export_of source n m None None = None

-- an import, where an export lists these
abbrev pub passed_on : Facts → (listed : Forest) → Kind → Note → (below : Forest) → Option Tree
passed_on f listed (import_declaration source) n (node specifiers m names nothing) =
    if may_pass names listed && are_passed_alone f listed names then export_of source n m (namespace_passed names listed) (passed names listed) else None
passed_on f listed k n below = None

-- ---- items

-- one of several, where there is one: the first
abbrev pub put_in : (k : Kind) (n : Note) (below rest : Forest) → Option Tree → Option Forest → Option Forest
put_in k n below rest (Some y) later = Some (node y.kind y.note y.below rest)
put_in k n below rest None (Some later) = Some (node k n below later)
put_in k n below rest None None = None

abbrev pub passed_among : Facts → (listed before : Forest) → Option Forest
passed_among f listed nothing = None
passed_among f listed (absent rest) = None
passed_among f listed (node k n below rest) = put_in k n below rest (passed_on f listed k n below) (passed_among f listed rest)

-- of those before an item, if it is an export that goes
abbrev pub passed_before : Facts → (before : Forest) → Kind → (below : Forest) → Option Forest
passed_before f before (export_named_declaration None) (absent (node specifiers m listed nothing)) = passed_among f listed before
passed_before f before k below = None

-- whether one goes
abbrev pub one_passes : Facts → (before items : Forest) → Bool
one_passes f before nothing = false
one_passes f before (absent rest) = false
one_passes f before (node k n below rest) = is_some (passed_before f before k below) || one_passes f (joined before (node k n below nothing)) rest

-- and what is left of all
abbrev pub or_joined : Option Forest → (before item : Forest) → Forest
or_joined (Some others) before item = others
or_joined None before item = joined before item

abbrev pub all_passed : Facts → (before items : Forest) → Forest
all_passed f before nothing = before
all_passed f before (absent rest) = joined before (absent rest)
all_passed f before (node k n below rest) = all_passed f (or_joined (passed_before f before k below) before (node k n below nothing)) rest

-- and the exports that go
abbrev pub and_gone : Option Forest → (k : Kind) (n : Note) (below gone : Forest) → Forest
and_gone (Some others) k n below gone = node k n below gone
and_gone None k n below gone = gone

abbrev pub all_gone : Facts → (before items : Forest) → Forest
all_gone f before nothing = nothing
all_gone f before (absent rest) = nothing
all_gone f before (node k n below rest) = and_gone (passed_before f before k below) k n below (all_gone f (or_joined (passed_before f before k below) before (node k n below nothing)) rest)

-- ---- of a module, in its own list, unless a direct call of `eval` is anywhere in it (ECMA-262 19.2.1.1)

abbrev pub list_passed : Facts → (below : Forest) → Option Forest
list_passed f (node statements m items nothing) = if one_passes f nothing items then Some (node statements m (all_passed f nothing items) nothing) else None
list_passed f below = None

abbrev pub list_gone : Facts → (below : Forest) → Forest
list_gone f (node statements m items nothing) = all_gone f nothing items
list_gone f below = nothing

abbrev pub below_passed : Facts → Kind → (below : Forest) → Option Forest
below_passed f (program source_type.Module) below = list_passed f below
below_passed f k below = None

abbrev pub pass_on : Facts → Place → Tree → Option Tree
pass_on f p x = if is_outermost p.ancestors && not (scope_has f.scoping 0 scope_flag.direct_eval) then with_below x (below_passed f x.kind x.below) else None
