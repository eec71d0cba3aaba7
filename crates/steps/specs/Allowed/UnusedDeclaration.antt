-- A declaration of one such declarator leaves a list of statements.
use Rattle.std.specs.Prelude.{ℕ, ◌+◌, List, Bool, Option}
use Rattle.js_syntax.specs.declared.node_kind.NodeKind.TheVariants.{VariableDeclaration as variable_declaration, VariableDeclarator as variable_declarator, Declarators as declarators, BindingName as binding_name}
use Rattle.js_syntax.specs.declared.kind.VariableKind.{VariableKind}
use Rattle.js_syntax.specs.Node.{Forest, Tree, Note, nothing, node}
use Rattle.scope_rules.specs.Context.{Context, inside}
use Rattle.scope_rules.specs.Site.{opens_one}
use Rattle.scope_laws.specs.Place.{Around, plug}
use Rattle.steps.specs.Allowed.Exposure.{IsOwnDeclaration}
use Rattle.steps.specs.Allowed.Free.{Free}
use Rattle.steps.specs.Allowed.Places.{a_node, in_class_at, IsItem, At}
use Rattle.steps.specs.Allowed.UnusedDeclarator.{SilentDeclarator}

-- of a declaration with one declarator
abbrev pub one_declarator : (m l : Note) → (below : Forest) → Forest
one_declarator m l below = node declarators m (node variable_declarator l below nothing) nothing

abbrev pub SilentDeclaration : Forest → VariableKind → (m l : Note) → (below : Forest) → (in_class in_with : Bool) → Context → (next : ℕ) → Type 0
SilentDeclaration t how m l below in_class in_with c next =
    let all = one_declarator m l below in
    let place = next + opens_one (variable_declaration how) all in
    let ds = node variable_declarator l below nothing in
    SilentDeclarator t below in_class in_with (inside (inside c next (variable_declaration how) all 0) place declarators ds 0) (place + opens_one declarators ds)

abbrev pub a_declaration : VariableKind → (n m l j : Note) → List ℕ → (value : Forest) → Option Tree
a_declaration how n m l j x value = a_node (variable_declaration how) n (one_declarator m l (node (binding_name x) j nothing value))

pub data UnusedDeclaration (a : Around) : Tree → Type 0 where
  unused_declaration_leaves : (how : VariableKind) (n m l j : Note) (x : List ℕ) (value : Forest) → IsItem a → IsOwnDeclaration how a (a_declaration how n m l j x value)
      → At a (a_declaration how n m l j x value) (SilentDeclaration (plug a (a_declaration how n m l j x value)) how m l (node (binding_name x) j nothing value) (in_class_at a))
      → At a (a_declaration how n m l j x value) (Free (plug a (a_declaration how n m l j x value)) how x)
      → UnusedDeclaration a (record { kind = variable_declaration how; note = n; below = one_declarator m l (node (binding_name x) j nothing value) })
