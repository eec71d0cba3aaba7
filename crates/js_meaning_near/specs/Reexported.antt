-- Modules of which one passes on what the other imports and exports. An export of a name that is imported is resolved to what the other
-- module exports (ECMA-262 16.2.3.7, ResolveExport), and a module's exports are a set: so no run tells the one from the other.
use Rattle.std.specs.Prelude.{◌≡◌, false, List, [], ◌∷◌, Some}
use Rattle.std.specs.Str.{bytes_eq}
use Rattle.js_syntax.specs.declared.node_kind.NodeKind.{NodeKind as Kind}
use Rattle.js_syntax.specs.declared.value.ModuleName.{ModuleName}
use Rattle.js_syntax.specs.Node.{Note, Forest, nothing, node, absent}
use Rattle.js_meaning.specs.Value.{Text}
use Rattle.js_meaning.specs.Scope.{linked, Decl, decl, var_names, module_decls}
use Rattle.js_meaning.specs.Module.{Entry, entry_local, entry_import, entries, stars, requests, distinct}
use Rattle.js_meaning_near.specs.Purpose.{for_values}
use Rattle.js_meaning_near.specs.Names.{Names, no_names, Decls}
use Rattle.js_meaning_near.specs.Near.{items, Near, ExportsOk}
use Rattle.js_meaning_near.specs.Avoid.{declares}

-- The name is bound by an import of this name from this source, and by nothing behind that.
pub data Imports : List Decl → Text → (source name : Text) → Type 0 where
  imports_here : {x source name : Text} {ds : List Decl} → declares ds x ≡ false → Imports (decl x (linked source name) ∷ ds) x source name
  imports_further_on : {d : Decl} {x source name : Text} {ds : List Decl} → Imports ds x source name → Imports (d ∷ ds) x source name

abbrev pub entry_name : Entry → Text
entry_name (entry_local x y) = x
entry_name (entry_import x source name) = x

-- The same exports, where names that the module imports are passed on as from where they are imported, and in another order.
pub data PassedOn (ds : List Decl) : List Entry → List Entry → Type 0 where
  as_before : {es : List Entry} → PassedOn ds es es
  further_on : {e : Entry} {es fs : List Entry} → PassedOn ds es fs → PassedOn ds (e ∷ es) (e ∷ fs)
  passed_on : {x y source name : Text} {es : List Entry} → Imports ds y source name → PassedOn ds (entry_local x y ∷ es) (entry_import x source name ∷ es)
  two_change : {d e : Entry} {es : List Entry} → bytes_eq (entry_name d) (entry_name e) ≡ false → PassedOn ds (d ∷ e ∷ es) (e ∷ d ∷ es)
  one_by_one : {es fs gs : List Entry} → PassedOn ds es fs → PassedOn ds fs gs → PassedOn ds es gs

-- The row with an export of what another module exports, which does nothing where it stands.
pub data PutIn : Forest → Forest → Type 0 where
  names_put_in : {source : Text} {n m : Note} {b r : Forest} → var_names b ≡ [] → PutIn r (node (Kind.ExportNamedDeclaration (Some source)) n (absent (node Kind.Specifiers m b nothing)) r)
  namespace_put_in : {source : Text} {name : ModuleName} {n : Note} {r : Forest} → PutIn r (node (Kind.ExportAllDeclaration (Some name) source) n nothing r)
  put_in_behind : {k : Kind} {n : Note} {a r s : Forest} → PutIn r s → PutIn (node k n a r) (node k n a s)

-- Two modules, by their statements: as near modules, but that the new one passes on what the old one imports and exports, by an export that
-- asks for no further module.
pub data ReexportedModule : Forest → Forest → Type 0 where
  reexported_module : {t : Names} {a b c : Forest} → Decls no_names (module_decls a) (module_decls b) t → stars a ≡ stars b → Near for_values items t a b → PutIn b c
      → PassedOn (module_decls a) (entries a) (entries c) → ExportsOk t (entries c) → distinct (requests a) ≡ distinct (requests c) → ReexportedModule a c
