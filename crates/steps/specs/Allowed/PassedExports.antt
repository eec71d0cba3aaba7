-- An import, and an export of the very names that it binds, become an export from the other module, in the place of the import: a name that is
-- imported and exported is resolved to what the other module exports (ECMA-262 16.2.3.7), which is asked for where it was (16.2.1.3).
use Rattle.std.specs.Prelude.{◌≡◌, ℕ, List, codes, Bool, true, false, ◌&&◌, ◌||◌, Some, None}
use Rattle.std.specs.Str.{bytes_eq}
use Rattle.js_syntax.specs.declared.node_kind.NodeKind.{NodeKind as Kind}
use Rattle.js_syntax.specs.declared.node_kind.NodeKind.TheVariants.{ImportDeclaration as import_declaration, Specifiers as specifiers, ImportSpecifier as import_specifier, ImportDefaultSpecifier as import_default_specifier, ImportNamespaceSpecifier as import_namespace_specifier, BindingName as binding_name, ReferenceName as reference_name, ExportNamedDeclaration as export_named_declaration, ExportAllDeclaration as export_all_declaration, ExportSpecifier as export_specifier, ForeignSpecifier as foreign_specifier}
use Rattle.js_syntax.specs.declared.value.ModuleName.{ModuleName}
use Rattle.js_syntax.specs.declared.value.ModuleName.TheVariants.{Name as plain_name}
use Rattle.js_syntax.specs.Node.{Forest, Note, nothing, node, absent}
use Rattle.js_meaning_near.specs.Near.{module_of}
use Rattle.json_shape.specs.Exact.{is_exact_module_name}
use Rattle.scope_rules.specs.Context.{body_of}
use Rattle.scope_rules.specs.Binding.{named_in}
use Rattle.steps.specs.Allowed.Exposure.{evaluates_somewhere}
use Rattle.steps.specs.Allowed.Free.{IsFree}
use Rattle.steps.specs.Allowed.MergedImports.{are_names}
use Rattle.steps.specs.Allowed.Places.{has_node}

-- ---- names of an import

-- The name is bound to this export of the other module, which is named as it may be (12.7).
pub data Binds : (names : Forest) → (x : List ℕ) → (imported : ModuleName) → Type 0 where
  binds_export : (imported : ModuleName) (n m : Note) (x : List ℕ) (rest : Forest) → is_exact_module_name imported ≡ true → Binds (node (import_specifier imported) n (node (binding_name x) m nothing nothing) rest) x imported
  binds_default : (n m : Note) (x : List ℕ) (rest : Forest) → Binds (node import_default_specifier n (node (binding_name x) m nothing nothing) rest) x (plain_name (codes "default"))
  binds_behind : (k : Kind) (n : Note) (below rest : Forest) (x : List ℕ) (imported : ModuleName) → Binds rest x imported → Binds (node k n below rest) x imported

-- nothing of the program refers to one
abbrev pub AreFree : (t names : Forest) → Type 0
AreFree t nothing = Unit {0}
AreFree t (absent rest) = AreFree t rest
AreFree t (node k n (node (binding_name x) m below beside) rest) = IsFree t (named_in x (body_of 0)) × AreFree t rest
AreFree t (node k n below rest) = AreFree t rest

-- ---- names that an export lists

abbrev pub lists : (listed : Forest) → List ℕ → Bool
lists nothing x = false
lists (absent rest) x = lists rest x
lists (node k n (node (reference_name y) m below beside) rest) x = bytes_eq y x || lists rest x
lists (node k n below rest) x = lists rest x

abbrev pub lists_each : (listed names : Forest) → Bool
lists_each listed nothing = true
lists_each listed (absent rest) = lists_each listed rest
lists_each listed (node k n (node (binding_name x) m below beside) rest) = lists listed x && lists_each listed rest
lists_each listed (node k n below rest) = lists_each listed rest

-- what they are from the other module, each under the name under which it was exported
pub data Passes (names : Forest) : (listed passed : Forest) → Type 0 where
  passes_none : Passes names nothing nothing
  passes_one : (exported imported : ModuleName) (n m i : Note) (x : List ℕ) (rest passed : Forest) → Binds names x imported → Passes names rest passed
      → Passes names (node (export_specifier exported) n (node (reference_name x) m nothing nothing) rest) (node (foreign_specifier imported exported) i nothing passed)

-- ---- both

abbrev pub may_pass : (names listed : Forest) → Bool
may_pass names listed = has_node names && (are_names names && lists_each listed names)

-- what they become; a namespace is alone, and listed once
pub data PassedOn (source : List ℕ) : (names listed : Forest) → (k : Kind) → (below : Forest) → Type 0 where
  names_passed_on : (names listed passed : Forest) (j : Note) → may_pass names listed ≡ true → Passes names listed passed
      → PassedOn source names listed (export_named_declaration (Some source)) (absent (node specifiers j passed nothing))
  namespace_passed_on : (exported : ModuleName) (n m i j : Note) (x : List ℕ)
      → PassedOn source (node import_namespace_specifier n (node (binding_name x) m nothing nothing) nothing) (node (export_specifier exported) i (node (reference_name x) j nothing nothing) nothing) (export_all_declaration (Some exported) source) nothing

-- ---- in a program's own list

-- a row with an export of these names, and the row without it
pub data WithoutExport (listed : Forest) : Forest → Forest → Type 0 where
  export_leaves : (n m : Note) (rest : Forest) → WithoutExport listed (node (export_named_declaration None) n (absent (node specifiers m listed nothing)) rest) rest
  leaves_behind : (k : Kind) (n : Note) (below r s : Forest) → WithoutExport listed r s → WithoutExport listed (node k n below r) (node k n below s)

-- a row, what is left of it without the export, and what it becomes
pub data PassesIn (names : Forest) : (row left now : Forest) → Type 0 where
  passes_here : (source : List ℕ) (n m i : Note) (listed : Forest) (k : Kind) (below r s : Forest) → PassedOn source names listed k below → WithoutExport listed r s
      → PassesIn names (node (import_declaration source) n (node specifiers m names nothing) r) (node (import_declaration source) n (node specifiers m names nothing) s) (node k i below s)
  passes_behind : (k : Kind) (n : Note) (below r s z : Forest) → PassesIn names r s z → PassesIn names (node k n below r) (node k n below s) (node k n below z)

-- The names have no references but those of the export, and no direct call of `eval` sees them.
pub data PassedExports : (t u : Forest) → Type 0 where
  exports_pass : (n m : Note) (names r s z : Forest) → PassesIn names r s z → AreFree (module_of n m s) names → evaluates_somewhere (module_of n m r) ≡ false → PassedExports (module_of n m r) (module_of n m z)
