-- A function declaration that nothing refers to, and that no other code may use, leaves a list of statements (ECMA-262 15.2).
use Rattle.std.specs.Prelude.{ℕ, List, Bool, Option}
use Rattle.js_syntax.specs.declared.node_kind.NodeKind.TheVariants.{Function as function, BindingName as binding_name}
use Rattle.js_syntax.specs.declared.kind.FunctionKind.TheVariants as function_kind
use Rattle.js_syntax.specs.declared.kind.VariableKind.TheVariants as variable
use Rattle.js_syntax.specs.Node.{Forest, Tree, Note, nothing, node}
use Rattle.scope_laws.specs.Place.{Around, plug}
use Rattle.steps.specs.Allowed.Exposure.{IsOwnFunction}
use Rattle.steps.specs.Allowed.Free.{Free}
use Rattle.steps.specs.Allowed.Places.{a_node, IsItem, At}

abbrev pub a_function : Bool → (n m : Note) → List ℕ → (rest : Forest) → Option Tree
a_function pure n m x rest = a_node (function function_kind.Declaration pure) n (node (binding_name x) m nothing rest)

pub data UnusedFunction (a : Around) : Tree → Type 0 where
  unused_function_leaves : (pure : Bool) (n m : Note) (x : List ℕ) (rest : Forest) → IsItem a → IsOwnFunction a (a_function pure n m x rest)
      → At a (a_function pure n m x rest) (Free (plug a (a_function pure n m x rest)) variable.Let x)
      → UnusedFunction a (record { kind = function function_kind.Declaration pure; note = n; below = node (binding_name x) m nothing rest })
