-- A declarator of a name that nothing refers to, and that no other code may use, with a silent initialiser or none, leaves
-- the others of an item (ECMA-262 14.3.1, 14.3.2).
use Rattle.std.specs.Prelude.{◌≡◌, ℕ, List, Bool, true, false, Option}
use Rattle.js_syntax.specs.declared.node_kind.NodeKind.TheVariants.{VariableDeclarator as variable_declarator, BindingName as binding_name}
use Rattle.js_syntax.specs.Node.{Forest, Tree, Note, nothing, node}
use Rattle.scope_rules.specs.Context.{Context}
use Rattle.scope_rules.specs.Site.{sites_of, bindings_among}
use Rattle.scope_laws.specs.Place.{Around, plug}
use Rattle.steps.specs.Allowed.Exposure.{IsOwnDeclarator}
use Rattle.steps.specs.Allowed.Free.{FreeDeclarator}
use Rattle.steps.specs.Allowed.Silent.{inside_of, IsSilentDeclarator}
use Rattle.steps.specs.Allowed.Places.{a_node, in_class_at, IsDeclarator, has_other, At}

abbrev pub SilentDeclarator : Forest → (below : Forest) → (in_class in_with : Bool) → Context → (next : ℕ) → Type 0
SilentDeclarator t below in_class in_with c next = IsSilentDeclarator (bindings_among (sites_of t)) (inside_of in_class in_with) c next below

abbrev pub a_declarator : (n m : Note) → List ℕ → (value : Forest) → Option Tree
a_declarator n m x value = a_node variable_declarator n (node (binding_name x) m nothing value)

pub data UnusedDeclarator (a : Around) : Tree → Type 0 where
  unused_declarator_leaves : (n m : Note) (x : List ℕ) (value : Forest) → IsDeclarator a → has_other false a ≡ true → IsOwnDeclarator a (a_declarator n m x value)
      → At a (a_declarator n m x value) (SilentDeclarator (plug a (a_declarator n m x value)) (node (binding_name x) m nothing value) (in_class_at a))
      → At a (a_declarator n m x value) (FreeDeclarator (plug a (a_declarator n m x value)) x)
      → UnusedDeclarator a (record { kind = variable_declarator; note = n; below = node (binding_name x) m nothing value })
