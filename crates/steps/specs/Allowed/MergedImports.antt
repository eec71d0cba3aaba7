-- Two imports of one module become one, in the place of the first: a name is bound to what the module exports, by whichever import it is
-- bound (ECMA-262 16.2.2), and a module is asked for once, in the place of its first request (16.2.1.3).
use Rattle.std.specs.Prelude.{◌≡◌, ℕ, ◌+◌, ◌==◌, List, codes, Bool, true, false, ◌&&◌, ◌||◌, nat_le, if◌then◌else◌}
use Rattle.js_syntax.specs.declared.node_kind.NodeKind.{NodeKind as Kind}
use Rattle.js_syntax.specs.declared.node_kind.NodeKind.TheVariants.{ImportDeclaration as import_declaration, Specifiers as specifiers, ImportSpecifier as import_specifier, ImportDefaultSpecifier as import_default_specifier, ImportNamespaceSpecifier as import_namespace_specifier, BindingName as binding_name}
use Rattle.js_syntax.specs.declared.value.ModuleName.TheVariants.{Name as plain_name}
use Rattle.js_syntax.specs.Node.{Forest, Note, nothing, node, absent, joined}
use Rattle.js_meaning_near.specs.Near.{module_of}
use Rattle.steps.specs.Steps.{binds_import}
use Rattle.steps.specs.Allowed.Exposure.{evaluates_somewhere}

-- ---- lists of an import's names

abbrev pub is_one_name : Forest → Bool
is_one_name (node (binding_name x) n nothing nothing) = true
is_one_name t = false

abbrev pub are_names : Forest → Bool
are_names nothing = true
are_names (absent rest) = false
are_names (node k n below rest) = binds_import k && (is_one_name below && are_names rest)

abbrev pub is_default : Kind → Bool
is_default import_default_specifier = true
is_default k = false

abbrev pub is_namespace : Kind → Bool
is_namespace import_namespace_specifier = true
is_namespace k = false

abbrev pub is_named : Kind → Bool
is_named (import_specifier imported) = true
is_named k = false

abbrev pub how_many : (Kind → Bool) → Forest → ℕ
how_many test nothing = 0
how_many test (absent rest) = how_many test rest
how_many test (node k n below rest) = (if test k then 1 else 0) + how_many test rest

-- No import binds two namespaces, or beside one named exports or two defaults.
abbrev pub go_together : Forest → Bool
go_together names = how_many is_namespace names == 0 || (how_many is_namespace names == 1 && (how_many is_named names == 0 && nat_le (how_many is_default names) 1))

-- ---- the names of both

-- `default as a` for `a`
abbrev pub as_named : Kind → Kind
as_named import_default_specifier = import_specifier (plain_name (codes "default"))
as_named k = k

abbrev pub all_named : Forest → Forest
all_named nothing = nothing
all_named (absent rest) = absent (all_named rest)
all_named (node k n below rest) = node (as_named k) n below (all_named rest)

abbrev pub first_default : Forest → Forest
first_default nothing = nothing
first_default (absent rest) = first_default rest
first_default (node k n below rest) = if is_default k then node k n below nothing else first_default rest

abbrev pub but_first_default : Forest → Forest
but_first_default nothing = nothing
but_first_default (absent rest) = absent (but_first_default rest)
but_first_default (node k n below rest) = if is_default k then rest else node k n below (but_first_default rest)

-- A first default goes to the front, where it has to stand; a further one becomes the export `default`, which is the same (16.2.2).
abbrev pub names_merged : (names later : Forest) → Forest
names_merged names later = if how_many is_default names == 0 then joined (first_default later) (joined names (all_named (but_first_default later))) else joined names (all_named later)

-- ---- in a program's own list

abbrev pub may_merge : (names later : Forest) → Bool
may_merge names later = are_names names && (are_names later && go_together (joined names later))

-- a row with an import of the module and these names, and the row without it
pub data WithoutImport (source : List ℕ) (names : Forest) : Forest → Forest → Type 0 where
  import_leaves : (n m : Note) (rest : Forest) → WithoutImport source names (node (import_declaration source) n (node specifiers m names nothing) rest) rest
  leaves_behind : (k : Kind) (n : Note) (below r s : Forest) → WithoutImport source names r s → WithoutImport source names (node k n below r) (node k n below s)

pub data MergesIn : Forest → Forest → Type 0 where
  merges_here : (source : List ℕ) (n m : Note) (names later r s : Forest) → may_merge names later ≡ true → WithoutImport source later r s
      → MergesIn (node (import_declaration source) n (node specifiers m names nothing) r) (node (import_declaration source) n (node specifiers m (names_merged names later) nothing) s)
  merges_behind : (k : Kind) (n : Note) (below r s : Forest) → MergesIn r s → MergesIn (node k n below r) (node k n below s)

-- The names of a module's scope come in another order then, so it is one in which no direct call of `eval` sees them.
pub data MergedImports : (t u : Forest) → Type 0 where
  imports_merge : (n m : Note) (r s : Forest) → MergesIn r s → evaluates_somewhere (module_of n m r) ≡ false → MergedImports (module_of n m r) (module_of n m s)
