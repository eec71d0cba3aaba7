-- Modules (ECMA-262 16.2): what they ask for, and what they export.
use Rattle.std.specs.Prelude.{Bool, true, false, List, [], ◌∷◌, ◌++◌, Option, Some, None, codes, nat_eq, nat_lt, if◌then◌else◌}
use Rattle.std.specs.Str.{bytes_eq}
use Rattle.js_syntax.specs.declared.node_kind.NodeKind.{NodeKind as Kind}
use Rattle.js_syntax.specs.Node.{Forest, nothing, node, absent, alone, nowhere}
use Rattle.js_meaning.specs.Value.{Text, Slot, imported, Env}
use Rattle.js_meaning.specs.Trace.{Act}
use Rattle.js_meaning.specs.State.{M, Export, export, normal, done, unknown, with_value, set_exports}
use Rattle.js_meaning.specs.Scope.{Decl, decl, lexical, bound_names, module_text, default_name, look}
use Rattle.js_meaning.specs.Host.{Enter, consult}

-- ModuleRequests (16.2.1.3): each source once, in the order of first occurrence

abbrev pub requests_of : Kind → List Text
requests_of (Kind.ImportDeclaration source) = source ∷ []
requests_of (Kind.ExportNamedDeclaration (Some source)) = source ∷ []
requests_of (Kind.ExportAllDeclaration name source) = source ∷ []
requests_of _ = []

abbrev pub requests : Forest → List Text
requests nothing = []
requests (absent r) = requests r
requests (node k n a r) = requests_of k ++ requests r

abbrev pub without : Text → List Text → List Text
without x [] = []
without x (y ∷ ys) = if bytes_eq y x then without x ys else y ∷ without x ys

abbrev pub distinct : List Text → List Text
distinct [] = []
distinct (x ∷ xs) = x ∷ without x (distinct xs)

-- what the host answers is of no use; what it throws ends the run of the module
unfoldable pub load_all : Enter → List Text → M
load_all E [] = done normal
load_all E (source ∷ sources) = with_value (consult E (Act.load source)) (λ v. load_all E sources)

-- ExportEntries (16.2.3): under a name, what a name of the module is bound to, or what another module exports

pub data Entry : Type 0 where
  entry_local : (exported local : Text) → Entry
  entry_import : (exported source imported : Text) → Entry

abbrev pub specifier_of : Kind → Forest → List Entry
specifier_of (Kind.ExportSpecifier exported) (node (Kind.ReferenceName local) n a r) = entry_local (module_text exported) local ∷ []
specifier_of _ a = []

abbrev pub local_entries : Forest → List Entry
local_entries nothing = []
local_entries (absent r) = local_entries r
local_entries (node k n a r) = specifier_of k a ++ local_entries r

abbrev pub foreign_of : Text → Kind → List Entry
foreign_of source (Kind.ForeignSpecifier name exported) = entry_import (module_text exported) source (module_text name) ∷ []
foreign_of source _ = []

abbrev pub foreign_entries : Text → Forest → List Entry
foreign_entries source nothing = []
foreign_entries source (absent r) = foreign_entries source r
foreign_entries source (node k n a r) = foreign_of source k ++ foreign_entries source r

abbrev pub same_names : List Text → List Entry
same_names [] = []
same_names (x ∷ xs) = entry_local x x ∷ same_names xs

abbrev pub names_in : List Decl → List Text
names_in [] = []
names_in (decl x way ∷ ds) = x ∷ names_in ds

-- a declaration exports what it declares, `var` names too
abbrev pub declared_in : Kind → Forest → List Text
declared_in (Kind.VariableDeclaration how) a = bound_names a
declared_in k a = names_in (lexical (alone k nowhere a))

abbrev pub declared_entries : Forest → List Entry
declared_entries nothing = []
declared_entries (absent r) = []
declared_entries (node k n a r) = same_names (declared_in k a)

abbrev pub default_local : List Decl → Text
default_local [] = default_name
default_local (decl x way ∷ ds) = x

-- the row of a list of specifiers
abbrev pub list_below : Forest → Forest
list_below nothing = nothing
list_below (absent r) = list_below r
list_below (node Kind.Specifiers n a r) = a
list_below (node k n a r) = list_below r

abbrev pub entries_of : Kind → Forest → List Entry
entries_of (Kind.ExportNamedDeclaration None) a = declared_entries a ++ local_entries (list_below a)
entries_of (Kind.ExportNamedDeclaration (Some source)) a = foreign_entries source (list_below a)
entries_of Kind.ExportDefaultDeclaration a = entry_local (codes "default") (default_local (lexical a)) ∷ []
entries_of (Kind.ExportAllDeclaration (Some name) source) a = entry_import (module_text name) source (codes "*") ∷ []
entries_of _ a = []

abbrev pub entries : Forest → List Entry
entries nothing = []
entries (absent r) = entries r
entries (node k n a r) = entries_of k a ++ entries r

-- the sources of `export *`
abbrev pub star_of : Kind → List Text
star_of (Kind.ExportAllDeclaration None source) = source ∷ []
star_of _ = []

abbrev pub stars : Forest → List Text
stars nothing = []
stars (absent r) = stars r
stars (node k n a r) = star_of k ++ stars r

-- the order of bytes
abbrev pub before : Text → Text → Bool
before xs [] = false
before [] (y ∷ ys) = true
before (x ∷ xs) (y ∷ ys) = if nat_eq x y then before xs ys else nat_lt x y

abbrev pub exported_name : Export → Text
exported_name (export x slot) = x

abbrev pub insert : Export → List Export → List Export
insert e [] = e ∷ []
insert e (f ∷ fs) = if before (exported_name f) (exported_name e) then f ∷ insert e fs else e ∷ f ∷ fs

abbrev pub sorted : List Export → List Export
sorted [] = []
sorted (e ∷ es) = insert e (sorted es)

-- A name that the module itself imports is passed on as if it were exported from there (16.2.3.7, ResolveExport); so
-- is a namespace here.
abbrev pub if_bound : Option Slot → (Slot → M) → M
if_bound None k = unknown
if_bound (Some slot) k = k slot

unfoldable pub resolve_entries : List Entry → Env → (List Export → M) → M
resolve_entries [] env k = k []
resolve_entries (entry_local x y ∷ es) env k = if_bound (look env y) (λ slot. resolve_entries es env (λ exports. k (export x slot ∷ exports)))
resolve_entries (entry_import x source name ∷ es) env k = resolve_entries es env (λ exports. k (export x (imported source name) ∷ exports))

abbrev pub exporting : Forest → Env → M → M
exporting a env m = resolve_entries (entries a) env (λ exports. set_exports (sorted exports) (stars a) m)
