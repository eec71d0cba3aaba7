-- What binds a name of an import that nothing refers to, and that no other code may use, leaves the import's list; the import stays, so
-- that its module is loaded where it was (ECMA-262 16.2.1.3, 16.2.2).
use Rattle.std.specs.Prelude.{◌≡◌, ℕ, List, true, Option}
use Rattle.js_syntax.specs.declared.node_kind.NodeKind.{NodeKind as Kind}
use Rattle.js_syntax.specs.declared.node_kind.NodeKind.TheVariants.{BindingName as binding_name}
use Rattle.js_syntax.specs.Node.{Tree, Note, nothing, node}
use Rattle.scope_laws.specs.Place.{Around, plug}
use Rattle.steps.specs.Steps.{binds_import}
use Rattle.steps.specs.Allowed.Exposure.{IsOwnDeclarator}
use Rattle.steps.specs.Allowed.Free.{FreeDeclarator}
use Rattle.steps.specs.Allowed.Imports.{IsImported}
use Rattle.steps.specs.Allowed.Places.{a_node, At}

abbrev pub an_imported : Kind → (n m : Note) → List ℕ → Option Tree
an_imported k n m x = a_node k n (node (binding_name x) m nothing nothing)

pub data UnusedImport (a : Around) : Tree → Type 0 where
  unused_import_leaves : (k : Kind) (n m : Note) (x : List ℕ) → binds_import k ≡ true → IsImported a → IsOwnDeclarator a (an_imported k n m x) → At a (an_imported k n m x) (FreeDeclarator (plug a (an_imported k n m x)) x)
      → UnusedImport a (record { kind = k; note = n; below = node (binding_name x) m nothing nothing })
